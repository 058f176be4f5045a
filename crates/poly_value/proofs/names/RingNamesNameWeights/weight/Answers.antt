use Rattle.std.proofs.Common.{◌<◌, ap, length, subst, sym, ◌∙◌}
use Rattle.std.specs.Prelude.{slice_index_or}
use Rattle.poly_value.specs.Values.{weight_at}
use Rattle.poly_value.proofs.Places.{place_below, weight_there}
use Rattle.poly_value.proofs.names.RingNamesNameWeights.weight.Goals as goal

pub bounds-as_slice-i : goal.bounds-as_slice-i
bounds-as_slice-i c =
    let ring = c.args.self.now.ring.now in
    let there = place_below ring.vars c.args.text.now c.in-Some.i (sym c.place.ensures ∙ c.in-Some.is) in
    let many = ap length c.as_slice.ensures.value ∙ ring.weighted in
    subst (λ k. c.in-Some.i < k) (sym many) there

pub returns-in-Some : goal.returns-in-Some
returns-in-Some c =
    let ring = c.args.self.now.ring.now in
    let at = sym c.place.ensures ∙ c.in-Some.is in
    let there = subst (λ k. c.in-Some.i < k) (sym ring.weighted) (place_below ring.vars c.args.text.now c.in-Some.i at) in
    weight_there ring.weights c.in-Some.i c.from.result there (c.as_slice.ensures.positive c.in-Some.i there)
    (c.from.ensures ∙ ap (λ l. slice_index_or l c.in-Some.i 0) c.as_slice.ensures.value) ∙ ap (weight_at ring.weights) (sym at)
