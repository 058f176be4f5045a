use Rattle.std.proofs.Common.{arith, refl, ◌+◌}
use Rattle.term_lists.specs.Rings.{variables}
use Rattle.zp_field.proofs.TableFields.{is_modulus-domain}
use Rattle.sparse_poly.proofs.PowerSteps.{IsPowerOver_next, next_stops}
use Rattle.sparse_poly.proofs.power.multiplied_on.Goals as goal

pub returns-in-Err-clause-stop : goal.returns-in-Err-clause-stop
returns-in-Err-clause-stop g c =
    let ring = g.F.Frame.over c.args.frame.now in
    let compare = g.F.Frame.compare c.args.frame.now in
    let order = g.met.F.Frame.laws c.args.frame.now (variables ring) 1 in
    let domain = is_modulus-domain ring.modulus.value ring.modulus.table in
    next_stops ring compare order domain c.args.p.now c.loop.counter c.args.n c.loop.reached c.in-Err.stop (omega arith)
    c.requires.vector c.requires.polynomial c.loop.invariant.power c.in-Err.ensures.stop

pub loop-preserved : goal.loop-preserved
loop-preserved g c =
    let ring = g.F.Frame.over c.args.frame.now in
    let compare = g.F.Frame.compare c.args.frame.now in
    let order = g.met.F.Frame.laws c.args.frame.now (variables ring) 1 in
    let domain = is_modulus-domain ring.modulus.value ring.modulus.table in
    record {
      power = rw c.replace.ensures.after (IsPowerOver_next ring compare order domain c.args.p.now c.loop.counter (c.loop.counter + 1) c.loop.reached c.in-Ok.next refl
          c.requires.vector c.requires.polynomial c.loop.invariant.power c.in-Ok.ensures.fits c.in-Ok.ensures.vector c.in-Ok.ensures.polynomial c.in-Ok.ensures.product);
      low = omega arith;
    }

pub mul_in-requires-clause-right : goal.mul_in-requires-clause-right
mul_in-requires-clause-right g c = c.requires.vector

pub mul_in-requires-clause-right_polynomial : goal.mul_in-requires-clause-right_polynomial
mul_in-requires-clause-right_polynomial g c = c.requires.polynomial
