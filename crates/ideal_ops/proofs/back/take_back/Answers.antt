use Rattle.std.proofs.Common.{subst, subst₂, sym, suc, ◌∙◌}
use Rattle.operation_laws.specs.Operations.{back, without_first}
use Rattle.term_lists.specs.FrontVariables.{front_ring}
use Rattle.term_lists.specs.Rings.{variables}
use Rattle.term_lists.specs.Vectors.{StandsFor, sum_of}
use Rattle.syzygy_engine.specs.Runs.{AreVectorsFor}
use Rattle.syzygy_engine.proofs.VectorLists.{vectors_next}
use Rattle.ideal_ops.proofs.OneMoreVariable.{are_back, back_left, back_next, sum_without_front}
use Rattle.ideal_ops.proofs.Shared.{of_terms}
use Rattle.ideal_ops.proofs.back.take_back.Goals as goal

pub returns-then-not-is_free : goal.returns-then-not-is_free
returns-then-not-is_free c = λ G h.
    let ring = c.args.ring.now in
    let n = variables ring in
    let left = sym (c.is_free.ensures (suc n) (of_terms (front_ring ring) c.args.v c.requires)) ∙ c.if-not-is_free.true in
    subst (λ F. AreVectorsFor ring F c.args.fewer.now.items) (sym (back_left G (sum_of (suc n) c.args.v) left)) h

pub without_front-requires-clause-variables : goal.without_front-requires-clause-variables
without_front-requires-clause-variables c =
    let ring = c.args.ring.now in
    let kept = sym (c.is_free.ensures (suc (variables ring)) (of_terms (front_ring ring) c.args.v c.requires)) ∙ c.if-not-is_free.false in
    (are_back ring c.args.v c.requires kept).some

pub without_front-requires-clause-none : goal.without_front-requires-clause-none
without_front-requires-clause-none c =
    let ring = c.args.ring.now in
    let kept = sym (c.is_free.ensures (suc (variables ring)) (of_terms (front_ring ring) c.args.v c.requires)) ∙ c.if-not-is_free.false in
    (are_back ring c.args.v c.requires kept).none

pub without_front-requires-clause-terms : goal.without_front-requires-clause-terms
without_front-requires-clause-terms c =
    let ring = c.args.ring.now in
    let kept = sym (c.is_free.ensures (suc (variables ring)) (of_terms (front_ring ring) c.args.v c.requires)) ∙ c.if-not-is_free.false in
    (are_back ring c.args.v c.requires kept).over

pub returns : goal.returns
returns c = λ G h.
    let ring = c.args.ring.now in
    let n = variables ring in
    let v = c.args.v in
    let u = c.in_ok-without_front.field-0 in
    let kept = sym (c.is_free.ensures (suc n) (of_terms (front_ring ring) v c.requires)) ∙ c.if-not-is_free.false in
    subst₂ (AreVectorsFor ring) (sym (back_next G (sum_of (suc n) v) kept)) (sym c.in_ok-push.ensures.items)
    (vectors_next ring c.args.fewer.now.items (back G) u (without_first (sum_of (suc n) v)) h
    c.in_ok-without_front.ensures.vector (subst (StandsFor ring u) (sum_without_front n v) c.in_ok-without_front.ensures.sum))
