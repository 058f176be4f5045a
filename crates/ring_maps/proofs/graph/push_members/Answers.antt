use Rattle.syzygy_engine.specs.Runs.{AreVectorsFor}
use Rattle.syzygy_engine.proofs.Standing.{Terms}
use Rattle.std.proofs.Common.{append-nil, map, subst, sym, take, ◌++◌, ◌+◌, ◌∙◌, List}
use Rattle.std.proofs.lemmas.List.{take_all}
use Rattle.formal_sums.specs.FormalSums.{Each}
use Rattle.map_laws.specs.Graphs.{in_first}
use Rattle.term_lists.proofs.Scaling.{Each_at}
use Rattle.term_lists.specs.Rings.{variables}
use Rattle.term_lists.specs.Vectors.{AreTermsOver, sums_of}
use Rattle.ring_maps.proofs.Listing.{first_next}
use Rattle.ring_maps.proofs.graph.push_members.Goals as goal

pub loop-v-init : goal.loop-v-init
loop-v-init c = λ G h. subst (λ H. AreVectorsFor c.args.graph.now H c.args.vectors.now.items) (sym (append-nil G)) h

pub first_vector-requires-clause-terms : goal.first_vector-requires-clause-terms
first_vector-requires-clause-terms c =
    let items = c.as_slice-v-items.result.now in
    let all = subst (Each (AreTermsOver c.args.ring.now)) (sym c.as_slice-v-items.ensures) c.requires.list in
    Each_at (AreTermsOver c.args.ring.now) items c.loop-v.v-index c.v-item.result all c.loop-v-test.true c.v-item.is

pub loop-v-preserved : goal.loop-v-preserved
loop-v-preserved c = λ G h.
    let ring = c.args.ring.now in
    let graph = c.args.graph.now in
    let items = c.as_slice-v-items.result.now in
    let i = c.loop-v.v-index in
    subst (AreVectorsFor graph (G ++ map (in_first (variables graph)) (sums_of (variables ring) (take (i + 1) items)))) (sym {A = List Terms} c.in_ok-push.ensures.items)
    (first_next ring graph G items c.loop-v.vectors.items i c.v-item.result c.in_ok-first_vector.field-0 c.loop-v-test.true c.v-item.is (c.loop-v.invariant G h)
    c.in_ok-first_vector.ensures.vector c.in_ok-first_vector.ensures.stands)

pub returns : goal.returns
returns c = λ G h.
    let ring = c.args.ring.now in
    let graph = c.args.graph.now in
    subst (λ xs. AreVectorsFor graph (G ++ map (in_first (variables graph)) (sums_of (variables ring) xs)) c.loop-v.vectors.items)
    (take_all c.loop-v.v-index c.as_slice-v-items.result.now c.loop-v-test.false ∙ c.as_slice-v-items.ensures) (c.loop-v.invariant G h)
