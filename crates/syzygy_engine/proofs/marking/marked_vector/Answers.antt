use Rattle.std.proofs.Common.{IfOk, subst}
use Rattle.term_lists.specs.Vectors.{StandsFor}
use Rattle.syzygy_engine.proofs.marking.marked_vector.Goals as goal

pub returns-clause-sum : goal.returns-clause-sum
returns-clause-sum c = subst (λ z. IfOk c.from_terms.result (λ u. StandsFor c.args.ring.now u z)) c.in_ok-terms.ensures.sum c.from_terms.ensures.same

pub marked_terms-requires : goal.marked_terms-requires
marked_terms-requires c = c.requires
