use Rattle.std.proofs.Common.{IfOk, ap, subst, sym, ◌∙◌}
use Rattle.term_lists.specs.Rings.{variables}
use Rattle.term_lists.specs.Vectors.{AreTermsOver, StandsFor, sum_of}
use Rattle.ideal_ops.proofs.Dividing.{placed_over, sum_placed}
use Rattle.ideal_ops.proofs.quotients.multiple_at.Goals as goal

pub from_terms-requires : goal.from_terms-requires
from_terms-requires c =
    subst (AreTermsOver c.args.ring.now) (sym c.in_ok-placed_terms.ensures) (placed_over c.args.ring.now c.args.position c.args.f.now c.requires)

pub returns-clause-sum : goal.returns-clause-sum
returns-clause-sum c =
    let n = variables c.args.ring.now in
    subst (λ z. IfOk c.from_terms.result (λ u. StandsFor c.args.ring.now u z)) (ap (λ v. sum_of n v) c.in_ok-placed_terms.ensures ∙ sum_placed n c.args.position c.args.f.now)
    c.from_terms.ensures.same
