use Rattle.term_lists.specs.Rings.{variables}
use Rattle.term_lists.specs.Vectors.{StandsFor, sum_of}
use Rattle.std.proofs.Common.{subst}
use Rattle.syzygy_engine.proofs.VectorLists.{vectors_next}
use Rattle.ext_modules.proofs.transposing.take_row.Goals as goal

pub returns : goal.returns
returns c = λ G h.
    let ring = c.args.ring.now in
    let v = c.in_ok-from_terms.field-0 in
    rw c.in_ok-push.ensures.items
    (vectors_next ring c.args.vectors.now.items G v (sum_of (variables ring) c.args.row) h c.in_ok-from_terms.ensures.vector
    (subst (λ t. StandsFor ring v (sum_of (variables ring) t)) c.into_terms.ensures c.in_ok-from_terms.ensures.same))
