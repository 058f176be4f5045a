use Rattle.std.proofs.Common.{IfSome, subst}
use Rattle.term_lists.specs.Rings.{variables}
use Rattle.zp_field.proofs.TableFields.{is_modulus-domain}
use Rattle.sparse_poly.proofs.DigitPowers.{found_power, terms_within}
use Rattle.sparse_poly.specs.TermPowers.{StandForPower}
use Rattle.sparse_poly.proofs.digits.short_power.Goals as goal

pub short_terms-requires-clause-terms : goal.short_terms-requires-clause-terms
short_terms-requires-clause-terms g c =
    let ring = g.F.Frame.over c.args.frame.now in
    rw (c.terms.ensures, c.ring-ring.ensures) (terms_within ring c.args.d c.args.p.now c.requires.vector.each c.requires.polynomial c.requires.within)

pub returns-in-Ok-from_terms-clause-power : goal.returns-in-Ok-from_terms-clause-power
returns-in-Ok-from_terms-clause-power g c =
    let ring = g.F.Frame.over c.args.frame.now in
    let order = g.met.F.Frame.laws c.args.frame.now (variables ring) 1 in
    let domain = is_modulus-domain ring.modulus.value ring.modulus.table in
    let found : StandForPower c.ring-ring.result.now c.terms.result.now c.args.n c.in-Some.terms.items =
    subst (λ o. IfSome o (λ v. StandForPower c.ring-ring.result.now c.terms.result.now c.args.n v.items)) c.in-Some.is c.in-Ok.ensures
    in
    found_power ring (g.F.Frame.compare c.args.frame.now) order domain c.args.p.now c.requires.vector c.args.d c.requires.within c.args.n c.ring-ring.result.now c.terms.result.now c.in-Some.terms.items c.in-Ok-from_terms.power
    c.ring-ring.ensures c.terms.ensures c.requires.small found c.in-Ok-from_terms.ensures.vector c.in-Ok-from_terms.ensures.same
