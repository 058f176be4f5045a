use Rattle.std.proofs.Common.{[], ap, map, subst, subst₂, sym, take, ◌∙◌, ◌∷◌}
use Rattle.std.proofs.lemmas.List.{map-append}
use Rattle.operation_laws.specs.Operations.{with_first}
use Rattle.term_lists.specs.FrontVariables.{front_ring}
use Rattle.formal_sums.specs.FormalSums.{Each}
use Rattle.term_lists.specs.Rings.{variables}
use Rattle.term_lists.proofs.Scaling.{Each_at}
use Rattle.term_lists.specs.Vectors.{AreTermsOver, sum_of, sums_of}
use Rattle.syzygy_engine.specs.Runs.{AreVectorsFor}
use Rattle.syzygy_engine.proofs.VectorLists.{vectors_next, vectors_none}
use Rattle.ideal_ops.proofs.Shared.{take_next}
use Rattle.std.proofs.lemmas.List.{take_all}
use Rattle.ideal_ops.proofs.front.all_in_front.Goals as goal

pub loop-v-preserved : goal.loop-v-preserved
loop-v-preserved c =
    let ring = c.args.ring.now in
    let n = variables ring in
    let i = c.loop-v.v-index in
    let items = c.as_slice-v-items.result.now in
    let x = c.v-item.result in
    subst₂ (AreVectorsFor (front_ring ring))
    (sym (ap (map with_first) (take_next n items i x c.loop-v-test.true c.v-item.is) ∙ map-append with_first (sums_of n (take i items)) (sum_of n x ∷ []))) (sym c.in_ok-push.ensures.items)
    (vectors_next (front_ring ring) c.loop-v.moved.items (map with_first (sums_of n (take i items))) c.in_ok-in_front.field-0 (with_first (sum_of n x)) c.loop-v.invariant
    c.in_ok-in_front.ensures.vector c.in_ok-in_front.ensures.stand)

pub loop-v-init : goal.loop-v-init
loop-v-init c = subst (AreVectorsFor (front_ring c.args.ring.now) []) (sym c.in_ok-moved.ensures.items) (vectors_none (front_ring c.args.ring.now))

pub in_front-requires-clause-vector : goal.in_front-requires-clause-vector
in_front-requires-clause-vector c =
    let items = c.as_slice-v-items.result.now in
    let all = subst (Each (AreTermsOver c.args.ring.now)) (sym c.as_slice-v-items.ensures) c.requires.vectors in
    Each_at (AreTermsOver c.args.ring.now) items c.loop-v.v-index c.v-item.result all c.loop-v-test.true c.v-item.is

pub in_front-requires-clause-front : goal.in_front-requires-clause-front
in_front-requires-clause-front c = c.requires.front

pub returns : goal.returns
returns c =
    let ring = c.args.ring.now in
    let n = variables ring in
    subst₂ (λ xs l. AreVectorsFor (front_ring ring) (map with_first (sums_of n xs)) l)
    (take_all c.loop-v.v-index c.as_slice-v-items.result.now c.loop-v-test.false ∙ c.as_slice-v-items.ensures) (sym c.from_vec.ensures) c.loop-v.invariant
