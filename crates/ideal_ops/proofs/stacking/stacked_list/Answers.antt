use Rattle.std.proofs.Common.{[], ap, subst, sym, ◌++◌, ◌∙◌, ◌∷◌}
use Rattle.operation_laws.specs.Operations.{stacked}
use Rattle.term_lists.specs.Rings.{variables}
use Rattle.term_lists.specs.Vectors.{sums_of}
use Rattle.syzygy_engine.specs.Runs.{AreVectorsFor}
use Rattle.syzygy_engine.proofs.VectorLists.{vectors_next, vectors_none}
use Rattle.ideal_ops.proofs.stacking.stacked_list.Goals as goal

pub returns : goal.returns
returns c =
    let ring = c.args.ring.now in
    let S = stacked c.args.rank 0 (sums_of (variables ring) c.args.by.now) in
    let v = c.in_ok-stacked_vector.field-0 in
    subst (AreVectorsFor ring (S ∷ [])) (sym (c.from_vec.ensures ∙ c.in_ok-push.ensures.items ∙ ap (λ l. l ++ v ∷ []) c.in_ok-list.ensures.items))
    (vectors_next ring [] [] v S (vectors_none ring) c.in_ok-stacked_vector.ensures.vector c.in_ok-stacked_vector.ensures.sum)
