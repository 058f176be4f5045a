use Rattle.std.proofs.Common.{arith, ◌*◌, ◌/◌, ◌≤◌}
use Rattle.std.proofs.Math.Nat.{mul-le-mul_right}
use Rattle.term_lists.specs.Rings.{variables}
use Rattle.term_lists.specs.Vectors.{sum_of}
use Rattle.zp_field.proofs.TableFields.{is_modulus-domain}
use Rattle.sparse_poly.proofs.PowerSteps.{PowerStops_higher, PowersFit_none, result_memory, result_within}
use Rattle.sparse_poly.proofs.Results.{each_ok}
use Rattle.sparse_poly.proofs.Terms.{IsPolynomial_of}
use Rattle.sparse_poly.specs.Stops.{PowersFit}
use Rattle.sparse_poly.proofs.power.+raised.Goals as goal

pub returns-then-n-eq0-clause-fits : goal.returns-then-n-eq0-clause-fits
returns-then-n-eq0-clause-fits g t c =
    let ring = g.F.Frame.over c.args.frame.now in
    let n = variables ring in
    let base = sum_of n c.args.p.now in
    let domain = is_modulus-domain ring.modulus.value ring.modulus.table in
    each_ok _ (λ v. PowersFit ring.weights ring.modulus.value base c.args.n) c.formal_constant.result (λ v h. PowersFit_none ring.weights domain base c.args.n (IsPolynomial_of n c.args.p.now c.requires.polynomial) c.if-n-eq0.true) c.formal_constant.ensures.vector

pub returns-in-Err-clause-stop : goal.returns-in-Err-clause-stop
returns-in-Err-clause-stop g t c =
    let ring = g.F.Frame.over c.args.frame.now in
    let n = variables ring in
    let base = sum_of n c.args.p.now in
    PowerStops_higher n ring.weights ring.modulus.value base (c.args.n / 2) c.args.n c.in-Err.stop (omega arith) c.in-Err.ensures.stop

pub returns-in-Err-clause-memory : goal.returns-in-Err-clause-memory
returns-in-Err-clause-memory g t c d within small =
    let le : c.args.n / 2 ≤ c.args.n = omega arith in
    let most : c.args.n / 2 * d ≤ c.args.n * d = mul-le-mul_right d le in
    c.in-Err.ensures.memory d within (omega arith)

pub returns-then-terms-factors-clause-within : goal.returns-then-terms-factors-clause-within
returns-then-terms-factors-clause-within g t c d within =
    let ring = g.F.Frame.over c.args.frame.now in
    let order = g.met.F.Frame.laws c.args.frame.now (variables ring) 1 in
    let domain = is_modulus-domain ring.modulus.value ring.modulus.table in
    result_within ring (g.F.Frame.compare c.args.frame.now) order domain c.args.p.now c.args.n d c.squared.result c.requires.vector within c.squared.ensures.power

pub returns-then-terms-factors-clause-memory : goal.returns-then-terms-factors-clause-memory
returns-then-terms-factors-clause-memory g t c d within small =
    let ring = g.F.Frame.over c.args.frame.now in
    let order = g.met.F.Frame.laws c.args.frame.now (variables ring) 1 in
    let domain = is_modulus-domain ring.modulus.value ring.modulus.table in
    result_memory ring (g.F.Frame.compare c.args.frame.now) order domain c.args.p.now c.args.n d c.squared.result c.requires.vector within small c.squared.ensures.stop

pub returns-else-terms-factors-clause-within : goal.returns-else-terms-factors-clause-within
returns-else-terms-factors-clause-within g t c d within =
    let ring = g.F.Frame.over c.args.frame.now in
    let order = g.met.F.Frame.laws c.args.frame.now (variables ring) 1 in
    let domain = is_modulus-domain ring.modulus.value ring.modulus.table in
    result_within ring (g.F.Frame.compare c.args.frame.now) order domain c.args.p.now c.args.n d c.multiplied_on.result c.requires.vector within c.multiplied_on.ensures.power

pub returns-else-terms-factors-clause-memory : goal.returns-else-terms-factors-clause-memory
returns-else-terms-factors-clause-memory g t c d within small =
    let ring = g.F.Frame.over c.args.frame.now in
    let order = g.met.F.Frame.laws c.args.frame.now (variables ring) 1 in
    let domain = is_modulus-domain ring.modulus.value ring.modulus.table in
    result_memory ring (g.F.Frame.compare c.args.frame.now) order domain c.args.p.now c.args.n d c.multiplied_on.result c.requires.vector within small c.multiplied_on.ensures.stop
