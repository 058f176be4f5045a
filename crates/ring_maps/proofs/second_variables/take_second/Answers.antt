use Rattle.syzygy_engine.specs.Runs.{AreVectorsFor}
use Rattle.syzygy_engine.proofs.Standing.{Terms}
use Rattle.syzygy_engine.proofs.VectorLists.{vectors_next}
use Rattle.std.proofs.Common.{false, subst, subst₂, sym, true, ◌∙◌, ◌≡◌, List}
use Rattle.division_laws.specs.Elimination.{has_none_of_first}
use Rattle.syzygy_laws.specs.Kernels.{all_kept}
use Rattle.map_laws.specs.Graphs.{from_second, of_second}
use Rattle.term_lists.specs.Rings.{variables}
use Rattle.term_lists.specs.Vectors.{sum_of}
use Rattle.ideal_ops.proofs.Shared.{of_terms}
use Rattle.ring_maps.proofs.SecondTerms.{second_kept, second_left}
use Rattle.ring_maps.proofs.second_variables.take_second.Goals as goal

pub returns-then-not-is_free : goal.returns-then-not-is_free
returns-then-not-is_free c = λ G h.
    let ring = c.args.ring.now in
    let graph = c.args.graph.now in
    let n = variables ring in
    let m = variables graph in
    let w = sum_of m c.args.v in
    let left = subst (λ k. all_kept (has_none_of_first k) w ≡ false) c.len.ensures (sym (c.is_free.ensures m (of_terms graph c.args.v c.requires.terms)) ∙ c.if-not-is_free.true) in
    subst (λ F. AreVectorsFor ring F c.args.members.now.items) (sym (second_left n G w left)) h

pub returns : goal.returns
returns c = λ G h.
    let ring = c.args.ring.now in
    let graph = c.args.graph.now in
    let n = variables ring in
    let m = variables graph in
    let w = sum_of m c.args.v in
    let kept = subst (λ k. all_kept (has_none_of_first k) w ≡ true) c.len.ensures (sym (c.is_free.ensures m (of_terms graph c.args.v c.requires.terms)) ∙ c.if-not-is_free.false) in
    subst₂ (AreVectorsFor ring) (sym (second_kept n G w kept)) (sym {A = List Terms} c.in_ok-push.ensures.items)
    (vectors_next ring c.args.members.now.items (of_second n G) c.in_ok-second_vector.field-0 (from_second n w) h c.in_ok-second_vector.ensures.vector c.in_ok-second_vector.ensures.stands)
