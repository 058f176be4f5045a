use Rattle.std.proofs.Common.{arith, refl, ◌+◌, ◌/◌, ◌≡◌, ◌≤◌}
use Rattle.term_lists.specs.Rings.{variables}
use Rattle.zp_field.proofs.TableFields.{is_modulus-domain}
use Rattle.sparse_poly.proofs.PowerSteps.{IsPowerOver_product, next_result, next_stops, power_stops}
use Rattle.sparse_poly.proofs.Results.{each_err}
use Rattle.sparse_poly.specs.PowerParts.{IsPowerOver, PowerStopsOver}
use Rattle.sparse_poly.proofs.power.squared.Goals as goal

pub returns-in-Err-clause-stop : goal.returns-in-Err-clause-stop
returns-in-Err-clause-stop g c =
    let ring = g.F.Frame.over c.args.frame.now in
    let order = g.met.F.Frame.laws c.args.frame.now (variables ring) 1 in
    let domain = is_modulus-domain ring.modulus.value ring.modulus.table in
    let half = c.requires.half.power_is in
    power_stops order ring.weights domain _ (c.args.n / 2) (c.args.n / 2) c.args.n c.args.half.now c.args.half.now c.in-Err.stop (omega arith) half half c.in-Err.ensures.stop

pub returns-then-n-eq0-clause-power : goal.returns-then-n-eq0-clause-power
returns-then-n-eq0-clause-power g c =
    let ring = g.F.Frame.over c.args.frame.now in
    let compare = g.F.Frame.compare c.args.frame.now in
    let order = g.met.F.Frame.laws c.args.frame.now (variables ring) 1 in
    let domain = is_modulus-domain ring.modulus.value ring.modulus.table in
    let half = c.requires.half.power_is in
    let whole : c.args.n / 2 + c.args.n / 2 ≡ c.args.n = omega arith in
    IsPowerOver_product ring compare order domain c.args.p.now (c.args.n / 2) (c.args.n / 2) c.args.n c.args.half.now c.args.half.now c.in-Ok.square whole
    c.requires.polynomial half half c.in-Ok.ensures.fits c.in-Ok.ensures.vector c.in-Ok.ensures.polynomial c.in-Ok.ensures.product

pub returns-else-n-eq0-clause-power : goal.returns-else-n-eq0-clause-power
returns-else-n-eq0-clause-power g c =
    let ring = g.F.Frame.over c.args.frame.now in
    let compare = g.F.Frame.compare c.args.frame.now in
    let order = g.met.F.Frame.laws c.args.frame.now (variables ring) 1 in
    let domain = is_modulus-domain ring.modulus.value ring.modulus.table in
    let half = c.requires.half.power_is in
    let even : IsPowerOver ring compare c.args.p.now (c.args.n / 2 + c.args.n / 2) c.in-Ok.square =
    IsPowerOver_product ring compare order domain c.args.p.now (c.args.n / 2) (c.args.n / 2) (c.args.n / 2 + c.args.n / 2) c.args.half.now c.args.half.now c.in-Ok.square refl
    c.requires.polynomial half half c.in-Ok.ensures.fits c.in-Ok.ensures.vector c.in-Ok.ensures.polynomial c.in-Ok.ensures.product
    in
    let whole : c.args.n / 2 + c.args.n / 2 + 1 ≡ c.args.n = omega arith in
    let last = c.mul_in-else-n-eq0.ensures in
    next_result ring compare order domain c.args.p.now (c.args.n / 2 + c.args.n / 2) c.args.n c.in-Ok.square c.mul_in-else-n-eq0.result whole
    c.requires.vector c.requires.polynomial even last.fits last.vector last.polynomial last.product

pub returns-else-n-eq0-clause-stop : goal.returns-else-n-eq0-clause-stop
returns-else-n-eq0-clause-stop g c =
    let ring = g.F.Frame.over c.args.frame.now in
    let compare = g.F.Frame.compare c.args.frame.now in
    let order = g.met.F.Frame.laws c.args.frame.now (variables ring) 1 in
    let domain = is_modulus-domain ring.modulus.value ring.modulus.table in
    let half = c.requires.half.power_is in
    let even : IsPowerOver ring compare c.args.p.now (c.args.n / 2 + c.args.n / 2) c.in-Ok.square =
    IsPowerOver_product ring compare order domain c.args.p.now (c.args.n / 2) (c.args.n / 2) (c.args.n / 2 + c.args.n / 2) c.args.half.now c.args.half.now c.in-Ok.square refl
    c.requires.polynomial half half c.in-Ok.ensures.fits c.in-Ok.ensures.vector c.in-Ok.ensures.polynomial c.in-Ok.ensures.product
    in
    let whole : c.args.n / 2 + c.args.n / 2 + 1 ≤ c.args.n = omega arith in
    each_err _ (PowerStopsOver ring c.args.p.now c.args.n) c.mul_in-else-n-eq0.result
    (λ stop h. next_stops ring compare order domain c.args.p.now (c.args.n / 2 + c.args.n / 2) c.args.n c.in-Ok.square stop whole c.requires.vector c.requires.polynomial even h)
    c.mul_in-else-n-eq0.ensures.stop
