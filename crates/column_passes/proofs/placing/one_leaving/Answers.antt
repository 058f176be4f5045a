use Rattle.std.proofs.Common.{[], ap, arith, false, length, refl, subst, ◌+◌, ◌-◌, ◌∙◌, ◌∷◌, ◌≡◌}
use Rattle.column_passes.specs.Placing.{ArePlacesAfter}
use Rattle.column_passes.proofs.Places.{put_leaves, put_length, put_stays, told_none}
use Rattle.column_passes.proofs.placing.one_leaving.Goals as goal

pub loop-init : goal.loop-init
loop-init c = record {
  none = refl;
  size = ap length c.new.ensures.items;
  places = told_none (record { places = c.new.result; count = 0 }) c.new.ensures.items refl;
}

pub loop-preserved : goal.loop-preserved
loop-preserved c =
    let old = c.loop.leaving in
    let new = c.push_place.new.leaving in
    let put = c.in_ok-push_place.ensures.put in
    record {
      none = put.1 ∙ c.loop.invariant.none;
      size = put_length false old new put ∙ ap (λ z. z + 1) c.loop.invariant.size;
      places = λ q. put_stays old new put q ∙ c.loop.invariant.places q;
    }

pub returns : goal.returns
returns c =
    let old = c.loop.leaving in
    let new = c.push_place-2.new.leaving in
    let row : length old.places.items - old.count ≡ c.args.row = omega (arith, c.loop.invariant.size, c.loop.invariant.none) in
    subst (λ z. ArePlacesAfter (z ∷ []) new) row
    (put_leaves [] old new (omega (arith, c.loop.invariant.none)) c.in_ok-push_place-2.ensures.put c.loop.invariant.places)
