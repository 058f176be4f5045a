use Rattle.std.proofs.Common.{arith, refl, reverse, subst, sym, ◌∙◌}
use Rattle.formal_sums.specs.FormalSums.{Each}
use Rattle.term_lists.specs.Rings.{ring_comparison, variables}
use Rattle.term_lists.specs.Vectors.{AreVectorsOver, sums_of}
use Rattle.column_passes.specs.Constants.{HasNoConstants, IsFirst}
use Rattle.column_passes.specs.Passing.{IsGraded}
use Rattle.minimal_betti.specs.Carried.{graded_maps}
use Rattle.minimal_betti.specs.Splitting.{in_turn}
use Rattle.minimal_betti.proofs.Reaching.{leads_itself, leads_on, stops_before}
use Rattle.minimal_betti.proofs.Splittings.{graded_here, ordered_here}
use Rattle.minimal_betti.proofs.by_steps.cancelled_by_steps.Goals as goal

pub first_constant-requires-clause-vectors : goal.first_constant-requires-clause-vectors
first_constant-requires-clause-vectors c =
    let ring = c.args.ring.now in
    subst (AreVectorsOver ring (ring_comparison ring)) (sym c.as_slice.ensures)
    (ordered_here ring c.loop-map.done.items c.loop-map.map (reverse c.loop-map.rest.items) c.loop-map.invariant.underway.ordered)

pub first_constant-requires-clause-graded : goal.first_constant-requires-clause-graded
first_constant-requires-clause-graded c =
    let ring = c.args.ring.now in
    subst (Each (IsGraded ring)) (sym c.as_slice.ensures)
    (graded_here ring c.loop-map.positions.items c.loop-map.done.items c.loop-map.map (reverse c.loop-map.rest.items) c.loop-map.invariant.underway.graded)

pub cancel-requires-clause-underway : goal.cancel-requires-clause-underway
cancel-requires-clause-underway c = c.loop-map.invariant.underway

pub cancel-requires-clause-first : goal.cancel-requires-clause-first
cancel-requires-clause-first c = subst (λ z. IsFirst c.args.ring.now z c.in-Some.at) c.as_slice.ensures c.in-Some.ensures.some

pub loop-map-init : goal.loop-map-init
loop-map-init c =
    let ring = c.args.ring.now in
    record {
      underway = c.requires.underway;
      leads = leads_itself ring.modulus.value (graded_maps ring c.args.positions.now.items
          (in_turn c.args.done.now.items c.args.current c.args.rest.now.items));
      count = refl;
    }

pub loop-map-preserved : goal.loop-map-preserved
loop-map-preserved c = record {
  underway = c.in-Ok.ensures.underway;
  leads = leads_on c.args.ring.now.modulus.value _ _ _ c.loop-map.invariant.leads c.in-Ok.ensures.leads;
  count = c.in-Ok.ensures.rest ∙ c.loop-map.invariant.count;
}

pub loop-map-smaller : goal.loop-map-smaller
loop-map-smaller c = let falls = c.in-Ok.ensures.falls in omega (arith, falls)

pub returns-in-None-clause-underway : goal.returns-in-None-clause-underway
returns-in-None-clause-underway c = c.loop-map.invariant.underway

pub returns-in-None-clause-leads : goal.returns-in-None-clause-leads
returns-in-None-clause-leads c = c.loop-map.invariant.leads

pub returns-in-None-clause-rest : goal.returns-in-None-clause-rest
returns-in-None-clause-rest c = c.loop-map.invariant.count

pub returns-in-None-clause-none : goal.returns-in-None-clause-none
returns-in-None-clause-none c =
    let ring = c.args.ring.now in
    subst (λ z. HasNoConstants ring.modulus.value (sums_of (variables ring) z)) c.as_slice.ensures (c.in-None.ensures.none refl)

pub returns-in-Err-clause-stop : goal.returns-in-Err-clause-stop
returns-in-Err-clause-stop c =
    let ring = c.args.ring.now in
    stops_before ring (graded_maps ring c.args.positions.now.items (in_turn c.args.done.now.items c.args.current c.args.rest.now.items)) _
    c.loop-map.invariant.leads c.in-Err.stop c.in-Err.ensures.stop
