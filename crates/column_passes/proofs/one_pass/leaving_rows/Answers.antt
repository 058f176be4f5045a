use Rattle.std.proofs.Common.{ap, arith, length, refl, subst, ◌+◌, ◌∙◌}
use Rattle.std.proofs.lemmas.List.{take_all}
use Rattle.column_passes.specs.Passing.{LeaveNumbered}
use Rattle.column_passes.proofs.Places.{numbered_start, numbered_step, put_length}
use Rattle.column_passes.proofs.one_pass.leaving_rows.Goals as goal

pub loop-number-init : goal.loop-number-init
loop-number-init c = record {
  size = ap length c.in_ok-with_capacity.ensures.items;
  bound = omega arith;
  leave = numbered_start (record { places = c.in_ok-with_capacity.field-0; count = 0 }) c.in_ok-with_capacity.ensures.items refl;
}

pub loop-number-preserved : goal.loop-number-preserved
loop-number-preserved c =
    let old = c.loop-number.leaving in
    let new = c.push_place.new.leaving in
    let put = c.in_ok-push_place.ensures.put in
    record {
      size = put_length _ old new put ∙ ap (λ z. z + 1) c.loop-number.invariant.size;
      bound = c.in_ok-push_place.ensures.count;
      leave = numbered_step c.args.numbers.now c.loop-number.number-index old new (omega arith) c.loop-number.invariant.size c.loop-number.invariant.bound put
          c.loop-number.invariant.leave;
    }

pub returns : goal.returns
returns c =
    subst (λ z. LeaveNumbered z c.loop-number.leaving) (take_all c.loop-number.number-index c.args.numbers.now (omega arith)) c.loop-number.invariant.leave
