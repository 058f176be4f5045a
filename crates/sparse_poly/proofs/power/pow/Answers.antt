use Rattle.std.proofs.Common.{subst}
use Rattle.term_lists.specs.Rings.{variables}
use Rattle.zp_field.proofs.TableFields.{is_modulus-domain}
use Rattle.sparse_poly.proofs.PowerSteps.{result_within}
use Rattle.sparse_poly.specs.Degrees.{IsWithinDegree}
use Rattle.sparse_poly.proofs.power.pow.Goals as goal

pub raised-requires-clause-vector : goal.raised-requires-clause-vector
raised-requires-clause-vector g c = c.requires.vector

pub raised-requires-clause-polynomial : goal.raised-requires-clause-polynomial
raised-requires-clause-polynomial g c = c.requires.polynomial

pub by_digits-requires-clause-vector : goal.by_digits-requires-clause-vector
by_digits-requires-clause-vector g c = c.requires.vector

pub by_digits-requires-clause-polynomial : goal.by_digits-requires-clause-polynomial
by_digits-requires-clause-polynomial g c = c.requires.polynomial

pub by_digits-requires-clause-within : goal.by_digits-requires-clause-within
by_digits-requires-clause-within g c = subst (IsWithinDegree c.top_degree-d.result) c.terms.ensures c.top_degree-d.ensures

pub returns-then-saturating_mul-le65535-clause-within : goal.returns-then-saturating_mul-le65535-clause-within
returns-then-saturating_mul-le65535-clause-within g c d within =
    let ring = g.F.Frame.over c.args.frame.now in
    let order = g.met.F.Frame.laws c.args.frame.now (variables ring) 1 in
    let domain = is_modulus-domain ring.modulus.value ring.modulus.table in
    result_within ring (g.F.Frame.compare c.args.frame.now) order domain c.args.p.now c.args.n d c.by_digits.result c.requires.vector within c.by_digits.ensures.power
