use Rattle.std.proofs.Common.{subst, subst₂, sym, ◌∙◌}
use Rattle.operation_laws.specs.Operations.{eliminated}
use Rattle.term_lists.specs.Rings.{variables}
use Rattle.term_lists.specs.Vectors.{sum_of}
use Rattle.syzygy_engine.specs.Runs.{AreVectorsFor}
use Rattle.syzygy_engine.proofs.VectorLists.{vectors_next}
use Rattle.ideal_ops.proofs.Free.{free_kept, free_left}
use Rattle.ideal_ops.proofs.Shared.{of_terms}
use Rattle.ideal_ops.proofs.eliminating.take_free.Goals as goal

pub returns-then-not-is_free : goal.returns-then-not-is_free
returns-then-not-is_free c = λ G h.
    let ring = c.args.ring.now in
    let n = variables ring in
    let left = sym (c.is_free.ensures n (of_terms ring c.args.v.now c.requires)) ∙ c.if-not-is_free.true in
    subst (λ F. AreVectorsFor ring F c.args.free.now.items) (sym (free_left c.args.k G (sum_of n c.args.v.now) left)) h

pub returns : goal.returns
returns c = λ G h.
    let ring = c.args.ring.now in
    let n = variables ring in
    let kept = sym (c.is_free.ensures n (of_terms ring c.args.v.now c.requires)) ∙ c.if-not-is_free.false in
    subst₂ (AreVectorsFor ring) (sym (free_kept c.args.k G (sum_of n c.args.v.now) kept)) (sym c.in_ok-push.ensures.items)
    (vectors_next ring c.args.free.now.items (eliminated c.args.k G) c.in_ok-sorted_vector.field-0 (sum_of n c.args.v.now) h
    c.in_ok-sorted_vector.ensures.vector c.in_ok-sorted_vector.ensures.sum)

pub sorted_vector-requires : goal.sorted_vector-requires
sorted_vector-requires c = c.requires
