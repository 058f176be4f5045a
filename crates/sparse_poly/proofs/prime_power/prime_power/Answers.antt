use Rattle.std.proofs.Common.{subst, sym, ◌*◌, ◌≤◌}
use Rattle.formal_sums.proofs.Sameness.{IsSame_trans}
use Rattle.term_lists.specs.Rings.{variables}
use Rattle.term_lists.specs.Vectors.{AreTermsOver, StandsFor, sum_of}
use Rattle.zp_field.proofs.TableFields.{is_modulus-domain}
use Rattle.sparse_poly.proofs.DigitPowers.{prime_same, terms_within}
use Rattle.sparse_poly.proofs.Results.{each_ok}
use Rattle.sparse_poly.specs.Powers.{polynomial_power}
use Rattle.sparse_poly.proofs.prime_power.prime_power.Goals as goal

pub raised_terms-requires-clause-terms : goal.raised_terms-requires-clause-terms
raised_terms-requires-clause-terms g c =
    let ring = g.F.Frame.over c.args.frame.now in
    rw (c.terms.ensures, c.ring-ring.ensures) (terms_within ring c.args.d c.args.v.now c.requires.vector.each c.requires.polynomial c.requires.within)

pub raised_terms-requires-clause-small : goal.raised_terms-requires-clause-small
raised_terms-requires-clause-small g c = subst (λ r. r.modulus.value * c.args.d ≤ 65535) (sym c.ring-ring.ensures) c.requires.small

pub from_terms-requires : goal.from_terms-requires
from_terms-requires g c = subst (λ r. AreTermsOver r c.in_ok-terms.terms.items) c.ring-ring.ensures c.in_ok-terms.ensures.over

pub returns-clause-power : goal.returns-clause-power
returns-clause-power g c =
    let ring = g.F.Frame.over c.args.frame.now in
    let domain = is_modulus-domain ring.modulus.value ring.modulus.table in
    each_ok _ (λ u. StandsFor ring u (polynomial_power (sum_of (variables ring) c.args.v.now) ring.modulus.value)) c.from_terms.result
    (λ u h. IsSame_trans h (prime_same ring c.ring-ring.result.now c.in_ok-terms.terms.items c.terms.result.now c.args.v.now c.ring-ring.ensures c.terms.ensures domain c.requires.polynomial c.in_ok-terms.ensures.raised))
    c.from_terms.ensures.same
