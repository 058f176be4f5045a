use Rattle.std.proofs.Common.{arith, refl}
use Rattle.column_passes.proofs.Lists.{drop_item, drop_none}
use Rattle.column_passes.proofs.Places.{indices_end, indices_more, indices_start}
use Rattle.column_passes.proofs.one_pass.leaving_columns.Goals as goal

pub loop-m-init : goal.loop-m-init
loop-m-init c = record {
  bound = omega arith;
  indices = indices_start c.args.met.now c.args.met.now (record { places = c.in_ok-with_capacity.field-0; count = 0 }) refl
      c.in_ok-with_capacity.ensures.items refl;
}

pub loop-m-preserved : goal.loop-m-preserved
loop-m-preserved c =
    let met = c.args.met.now in
    let i = c.loop-m.m-index in
    record {
      bound = c.in_ok-push_place.ensures.count;
      indices = indices_more met _ _ c.m-item.result _ c.loop-m.leaving c.push_place.new.leaving (drop_item met i c.m-item.result (omega arith) c.m-item.is)
          c.loop-m.invariant.bound c.in_ok-push_place.ensures.put c.is_some.ensures c.loop-m.invariant.indices;
    }

pub returns : goal.returns
returns c = indices_end c.args.met.now _ c.loop-m.leaving (drop_none c.args.met.now c.loop-m.m-index (omega arith)) c.loop-m.invariant.indices
