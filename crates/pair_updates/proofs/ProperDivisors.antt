-- Whether a monomial divides another one, by degree and exponents
use Rattle.std.proofs.Common.{List, ap, arith, ℕ, ◌<◌, ◌≤◌}
use Rattle.monomials.proofs.Weighing.{weighted_degree-times}
use Rattle.monomials.specs.Exponents.{Divides, Exponents, exponents_of}
use Rattle.monomials.specs.Weights.{weighted_degree}
use Rattle.monomial_orders.specs.Kept.{IsWeighed, Monomial}

-- a divisor has no greater degree
pub divisor_degree : {n : ℕ} (ws : List ℕ) (v w : Exponents n) → Divides v w → weighted_degree ws v ≤ weighted_degree ws w
divisor_degree ws v w d = omega (arith, ap (weighted_degree ws) d.1, weighted_degree-times ws d.0 v)

pub no_divisor :
    (n : ℕ) (ws : List ℕ) (a b : Monomial) → IsWeighed n ws a → IsWeighed n ws b → b.degree < a.degree
    → Divides (exponents_of n a.exponents) (exponents_of n b.exponents) → ⊥
no_divisor n ws a b p q l d =
    let e = divisor_degree ws (exponents_of n a.exponents) (exponents_of n b.exponents) d in
    omega (arith, e, p.degree, q.degree, l)
