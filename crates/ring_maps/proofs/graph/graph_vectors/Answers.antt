use Rattle.syzygy_engine.specs.Runs.{AreVectorsFor}
use Rattle.syzygy_engine.proofs.Standing.{Terms}
use Rattle.syzygy_engine.proofs.VectorLists.{vectors_none}
use Rattle.std.proofs.Common.{[], ap, arith, get_or, length, subst, sym, ◌+◌, ◌<◌, ◌∙◌, ◌≡◌, ◌≤◌, List}
use Rattle.std.proofs.lemmas.List.{get_or_default}
use Rattle.operation_laws.proofs.Linear.{Each_at}
use Rattle.operation_laws.specs.Operations.{listed}
use Rattle.map_laws.specs.Graphs.{graph_member}
use Rattle.term_lists.specs.Rings.{variables}
use Rattle.term_lists.specs.Vectors.{AreTermsOver, sums_of}
use Rattle.ring_maps.proofs.Listing.{member_next}
use Rattle.ring_maps.proofs.graph.graph_vectors.Goals as goal

pub loop-i-init : goal.loop-i-init
loop-i-init c = record {
  within = omega arith;
  members = subst (AreVectorsFor c.args.graph.now []) (sym c.in_ok-vectors.ensures.items) (vectors_none c.args.graph.now);
}

pub bounds-as_slice-i : goal.bounds-as_slice-i
bounds-as_slice-i c = subst (λ l. c.loop-i.i < length l) (sym c.as_slice.ensures) (subst (λ z. c.loop-i.i < z) c.len-i-end.ensures c.loop-i-test.true)

pub graph_vector-requires-clause-index : goal.graph_vector-requires-clause-index
graph_vector-requires-clause-index c = omega (arith, c.loop-i-test.true, c.len-i-end.ensures, c.requires.count)

pub graph_vector-requires-clause-terms : goal.graph_vector-requires-clause-terms
graph_vector-requires-clause-terms c =
    let images = c.args.images.now in
    let i = c.loop-i.i in
    let f = c.index-as_slice-i.result in
    let lt : i < length images = subst (λ z. i < z) c.len-i-end.ensures c.loop-i-test.true in
    let is = c.index-as_slice-i.is ∙ ap (λ z. get_or z i f) c.as_slice.ensures ∙ get_or_default images i f [] lt in
    subst (AreTermsOver c.args.ring.now) (sym is) (Each_at (AreTermsOver c.args.ring.now) [] images c.requires.images i lt)

pub loop-i-preserved : goal.loop-i-preserved
loop-i-preserved c =
    let ring = c.args.ring.now in
    let graph = c.args.graph.now in
    let images = c.args.images.now in
    let i = c.loop-i.i in
    let f = c.index-as_slice-i.result in
    let lt : i < length images = subst (λ z. i < z) c.len-i-end.ensures c.loop-i-test.true in
    let is = c.index-as_slice-i.is ∙ ap (λ z. get_or z i f) c.as_slice.ensures ∙ get_or_default images i f [] lt in
    record {
      within = omega (arith, lt);
      members = subst (AreVectorsFor graph (listed 0 (i + 1) (graph_member ring.modulus.value (variables graph) (sums_of (variables ring) images)))) (sym {A = List Terms} c.in_ok-push.ensures.items)
          (member_next ring graph images c.loop-i.vectors.items i f c.in_ok-graph_vector.field-0 is c.loop-i.invariant.members c.in_ok-graph_vector.ensures.vector c.in_ok-graph_vector.ensures.stands);
    }

pub returns : goal.returns
returns c =
    let ring = c.args.ring.now in
    let graph = c.args.graph.now in
    let images = c.args.images.now in
    let i = c.loop-i.i in
    let w : i ≤ length images = c.loop-i.invariant.within in
    let all : i ≡ variables ring = omega (arith, w, c.loop-i-test.false, c.len-i-end.ensures, c.requires.count) in
    subst (λ k. AreVectorsFor graph (listed 0 k (graph_member ring.modulus.value (variables graph) (sums_of (variables ring) images))) c.loop-i.vectors.items) all c.loop-i.invariant.members
