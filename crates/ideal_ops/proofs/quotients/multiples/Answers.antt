use Rattle.std.proofs.Common.{subst₂, sym}
use Rattle.formal_sums.specs.FormalSums.{product}
use Rattle.operation_laws.specs.Operations.{basis_vector, multiples_of}
use Rattle.term_lists.specs.Rings.{variables}
use Rattle.term_lists.specs.Vectors.{sum_of}
use Rattle.syzygy_engine.specs.Runs.{AreVectorsFor}
use Rattle.syzygy_engine.proofs.VectorLists.{vectors_next}
use Rattle.ideal_ops.proofs.Dividing.{multiples_next}
use Rattle.ideal_ops.proofs.quotients.multiples.Goals as goal

pub loop-position-preserved : goal.loop-position-preserved
loop-position-preserved c =
    let ring = c.args.ring.now in
    let u = sum_of (variables ring) c.args.f.now in
    let j = c.loop-position.position in
    subst₂ (AreVectorsFor ring) (sym (multiples_next j u)) (sym c.in_ok-push.ensures.items)
    (vectors_next ring c.loop-position.list.items (multiples_of j u) c.in_ok-multiple_at.field-0 (product u (basis_vector j)) c.loop-position.invariant
    c.in_ok-multiple_at.ensures.vector c.in_ok-multiple_at.ensures.sum)

pub multiple_at-requires : goal.multiple_at-requires
multiple_at-requires c = c.requires
