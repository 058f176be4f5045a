use Rattle.std.proofs.Common.{ap, subst, sym, ◌∙◌}
use Rattle.formal_sums.proofs.Sameness.{IsSame_of, IsSame_trans}
use Rattle.term_lists.specs.Rings.{variables}
use Rattle.term_lists.specs.Vectors.{AreTermsOver, sum_of}
use Rattle.basis_core.proofs.Quotients.{terms_over, terms_sum}
use Rattle.basis_core.proofs.products.quotient_products.Goals as goal

pub from_terms-requires : goal.from_terms-requires
from_terms-requires c = subst (AreTermsOver c.args.ring.now) (sym c.in_ok-terms.ensures) (terms_over c.args.ring.now c.args.quotients.now c.requires)

pub returns-clause-sum : goal.returns-clause-sum
returns-clause-sum c =
    let n = variables c.args.ring.now in
    IsSame_trans c.in_ok-products.ensures.same
    (IsSame_of c.args.ring.now.modulus.value _ _ (ap (sum_of n) c.in_ok-terms.ensures ∙ terms_sum n c.args.quotients.now))
