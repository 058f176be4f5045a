use Rattle.std.specs.Prelude.{None}
use Rattle.std.proofs.Common.{arith, refl}
use Rattle.std.proofs.lemmas.List.{drop_more}
use Rattle.column_passes.proofs.Lists.{drop_none}
use Rattle.constant_passes.proofs.Leavings.{indices_end, indices_more, indices_start}
use Rattle.constant_passes.proofs.leaving.leaving_columns.Goals as goal

pub loop-choice-init : goal.loop-choice-init
loop-choice-init c = record {
  bound = omega arith;
  indices = indices_start c.args.choices.now c.args.choices.now (record { places = c.in_ok-with_capacity.field-0; count = 0 }) refl
      c.in_ok-with_capacity.ensures.items refl;
}

pub loop-choice-preserved : goal.loop-choice-preserved
loop-choice-preserved c =
    let choices = c.args.choices.now in
    let i = c.loop-choice.choice-index in
    record {
      bound = c.in_ok-push_place.ensures.count;
      indices = indices_more choices _ _ _ _ c.loop-choice.leaving c.push_place.new.leaving
          (drop_more choices i None (omega arith)) c.loop-choice.invariant.bound c.in_ok-push_place.ensures.put
          c.is_some.ensures c.loop-choice.invariant.indices;
    }

pub returns : goal.returns
returns c =
    indices_end c.args.choices.now _ c.loop-choice.leaving (drop_none c.args.choices.now c.loop-choice.choice-index (omega arith))
    c.loop-choice.invariant.indices
