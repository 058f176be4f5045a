use Rattle.std.proofs.Common.{[], ap, arith, subst₂, sym, ◌++◌, ◌+◌, ◌∙◌, ◌∷◌, ◌≡◌}
use Rattle.operation_laws.specs.Operations.{inverse_vector, listed}
use Rattle.term_lists.specs.FrontVariables.{front_ring}
use Rattle.syzygy_engine.specs.Runs.{AreVectorsFor}
use Rattle.syzygy_engine.proofs.VectorLists.{vectors_next}
use Rattle.ideal_ops.proofs.Dividing.{listed_next}
use Rattle.ideal_ops.proofs.saturating.inverses.Goals as goal

pub loop-position-preserved : goal.loop-position-preserved
loop-position-preserved c = λ f h.
    let ring = c.args.ring.now in
    let p = ring.modulus.value in
    let j = c.loop-position.position in
    let e : 0 + j ≡ j = omega arith in
    let done = listed 0 j (inverse_vector p f) in
    let next = c.in_ok-inverse_at.ensures f h in
    subst₂ (AreVectorsFor (front_ring ring))
    (sym (listed_next 0 j (inverse_vector p f) ∙ ap (λ i. done ++ inverse_vector p f i ∷ []) e)) (sym c.in_ok-push.ensures.items)
    (vectors_next (front_ring ring) c.loop-position.list.items done c.in_ok-inverse_at.field-0 (inverse_vector p f j) (c.loop-position.invariant f h) next.vector next.stand)

pub inverse_at-requires-clause-front : goal.inverse_at-requires-clause-front
inverse_at-requires-clause-front c = c.requires.front

pub inverse_at-requires-clause-w : goal.inverse_at-requires-clause-w
inverse_at-requires-clause-w c = c.requires.w
