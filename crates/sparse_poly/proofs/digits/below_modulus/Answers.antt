use Rattle.term_lists.specs.Rings.{variables}
use Rattle.zp_field.proofs.TableFields.{is_modulus-domain}
use Rattle.sparse_poly.proofs.DigitPowers.{power_over_result}
use Rattle.sparse_poly.proofs.digits.below_modulus.Goals as goal

pub raised-requires-clause-vector : goal.raised-requires-clause-vector
raised-requires-clause-vector g c = c.requires.vector

pub raised-requires-clause-polynomial : goal.raised-requires-clause-polynomial
raised-requires-clause-polynomial g c = c.requires.polynomial

pub returns-clause-power : goal.returns-clause-power
returns-clause-power g c =
    let ring = g.F.Frame.over c.args.frame.now in
    let order = g.met.F.Frame.laws c.args.frame.now (variables ring) 1 in
    let domain = is_modulus-domain ring.modulus.value ring.modulus.table in
    power_over_result ring (g.F.Frame.compare c.args.frame.now) order domain c.args.p.now c.requires.vector c.args._d c.requires.within c.args.n c.raised.result c.requires.small c.raised.ensures.vector c.raised.ensures.power

pub returns-clause-stop : goal.returns-clause-stop
returns-clause-stop g c = c.raised.ensures.memory c.args._d c.requires.within c.requires.small
