use Rattle.std.proofs.Common.{arith, refl, ℕ, ◌*◌, ◌+◌, ◌≡◌, ◌≤◌}
use Rattle.term_lists.specs.Rings.{variables}
use Rattle.zp_field.proofs.TableFields.{is_modulus-domain}
use Rattle.sparse_poly.proofs.DigitPowers.{joined_result, lifted_over, lifted_room, power_degree}
use Rattle.sparse_poly.proofs.digits.joined.Goals as goal

pub prime_power-requires-clause-vector : goal.prime_power-requires-clause-vector
prime_power-requires-clause-vector g c = c.requires.high.power_is.vector

pub prime_power-requires-clause-polynomial : goal.prime_power-requires-clause-polynomial
prime_power-requires-clause-polynomial g c = c.requires.high.power_is.positions

pub prime_power-requires-clause-within : goal.prime_power-requires-clause-within
prime_power-requires-clause-within g c =
    let ring = g.F.Frame.over c.args.frame.now in
    let order = g.met.F.Frame.laws c.args.frame.now (variables ring) 1 in
    let domain = is_modulus-domain ring.modulus.value ring.modulus.table in
    power_degree ring (g.F.Frame.compare c.args.frame.now) order domain c.args._p.now c.requires.vector c.args.d c.requires.within c.args.k c.args.high.now c.requires.high

pub prime_power-requires-clause-small : goal.prime_power-requires-clause-small
prime_power-requires-clause-small g c =
    let q : ℕ = (g.F.Frame.over c.args.frame.now).modulus.value in
    let room : q * (c.args.k * c.args.d) + c.args.r * c.args.d ≤ 65535 = lifted_room c.args._n q c.args.k c.args.r c.args.d c.requires.parts c.requires.small in
    omega arith

pub returns-then-r-eq0-clause-power : goal.returns-then-r-eq0-clause-power
returns-then-r-eq0-clause-power g c =
    let ring = g.F.Frame.over c.args.frame.now in
    let order = g.met.F.Frame.laws c.args.frame.now (variables ring) 1 in
    let domain = is_modulus-domain ring.modulus.value ring.modulus.table in
    let parts : ring.modulus.value * c.args.k + c.args.r ≡ c.args._n = c.requires.parts in
    let none : c.args.r ≡ 0 = c.if-r-eq0.true in
    let whole : c.args._n ≡ ring.modulus.value * c.args.k = omega arith in
    lifted_over ring (g.F.Frame.compare c.args.frame.now) order domain c.args._p.now c.requires.vector c.args.d c.requires.within c.args.k c.args._n c.args.high.now c.in-Ok.lifted
    whole c.requires.small c.requires.high c.in-Ok.ensures.vector c.in-Ok.ensures.power

pub mul_in-requires-clause-left_polynomial : goal.mul_in-requires-clause-left_polynomial
mul_in-requires-clause-left_polynomial g c =
    let ring = g.F.Frame.over c.args.frame.now in
    let order = g.met.F.Frame.laws c.args.frame.now (variables ring) 1 in
    let domain = is_modulus-domain ring.modulus.value ring.modulus.table in
    let q : ℕ = ring.modulus.value in
    let room : q * (c.args.k * c.args.d) + c.args.r * c.args.d ≤ 65535 = lifted_room c.args._n q c.args.k c.args.r c.args.d c.requires.parts c.requires.small in
    let same : q * c.args.k * c.args.d ≡ q * (c.args.k * c.args.d) = omega arith in
    let small : q * c.args.k * c.args.d ≤ 65535 = omega arith in
    (lifted_over ring (g.F.Frame.compare c.args.frame.now) order domain c.args._p.now c.requires.vector c.args.d c.requires.within c.args.k (q * c.args.k) c.args.high.now c.in-Ok.lifted
    refl small c.requires.high c.in-Ok.ensures.vector c.in-Ok.ensures.power).power_is.positions

pub returns-clause-power : goal.returns-clause-power
returns-clause-power g c =
    let ring = g.F.Frame.over c.args.frame.now in
    let compare = g.F.Frame.compare c.args.frame.now in
    let order = g.met.F.Frame.laws c.args.frame.now (variables ring) 1 in
    let domain = is_modulus-domain ring.modulus.value ring.modulus.table in
    let q : ℕ = ring.modulus.value in
    let room : q * (c.args.k * c.args.d) + c.args.r * c.args.d ≤ 65535 = lifted_room c.args._n q c.args.k c.args.r c.args.d c.requires.parts c.requires.small in
    let same : q * c.args.k * c.args.d ≡ q * (c.args.k * c.args.d) = omega arith in
    let small : q * c.args.k * c.args.d ≤ 65535 = omega arith in
    let lifted = lifted_over ring compare order domain c.args._p.now c.requires.vector c.args.d c.requires.within c.args.k (q * c.args.k) c.args.high.now c.in-Ok.lifted
    refl small c.requires.high c.in-Ok.ensures.vector c.in-Ok.ensures.power
    in
    joined_result ring compare order domain c.args._p.now c.requires.vector c.args.d c.requires.within (q * c.args.k) c.args.r c.args._n c.in-Ok.lifted c.args.low.now c.mul_in.result
    c.requires.parts c.requires.small lifted c.requires.low c.mul_in.ensures.vector c.mul_in.ensures.product

pub returns-clause-stop : goal.returns-clause-stop
returns-clause-stop g c =
    let ring = g.F.Frame.over c.args.frame.now in
    let compare = g.F.Frame.compare c.args.frame.now in
    let order = g.met.F.Frame.laws c.args.frame.now (variables ring) 1 in
    let domain = is_modulus-domain ring.modulus.value ring.modulus.table in
    let q : ℕ = ring.modulus.value in
    let room : q * (c.args.k * c.args.d) + c.args.r * c.args.d ≤ 65535 = lifted_room c.args._n q c.args.k c.args.r c.args.d c.requires.parts c.requires.small in
    let same : q * c.args.k * c.args.d ≡ q * (c.args.k * c.args.d) = omega arith in
    let small : q * c.args.k * c.args.d ≤ 65535 = omega arith in
    let both : q * c.args.k * c.args.d + c.args.r * c.args.d ≤ 65535 = omega arith in
    let lifted = lifted_over ring compare order domain c.args._p.now c.requires.vector c.args.d c.requires.within c.args.k (q * c.args.k) c.args.high.now c.in-Ok.lifted
    refl small c.requires.high c.in-Ok.ensures.vector c.in-Ok.ensures.power
    in
    c.mul_in.ensures.memory (q * c.args.k * c.args.d) (c.args.r * c.args.d)
    (power_degree ring compare order domain c.args._p.now c.requires.vector c.args.d c.requires.within (q * c.args.k) c.in-Ok.lifted lifted)
    (power_degree ring compare order domain c.args._p.now c.requires.vector c.args.d c.requires.within c.args.r c.args.low.now c.requires.low)
    both
