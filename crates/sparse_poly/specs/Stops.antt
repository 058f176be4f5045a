-- When a product or a power needs a monomial whose degree is too great
use Rattle.std.specs.Prelude.{List, ⊤, ℕ, ◌+◌, ◌≤◌}
use Rattle.residues.specs.Residues.{IsCongruent}
use Rattle.monomials.specs.Exponents.{Exponents, exponents_of}
use Rattle.monomials.specs.Weights.{weighted_degree}
use Rattle.formal_sums.specs.FormalSums.{Each, FormalSum, coefficient}
use Rattle.monomial_orders.specs.Kept.{IsWeighed}
use Rattle.term_lists.specs.declared.key.Key.{Key as CodeKey}
use Rattle.term_lists.specs.declared.stop.VectStop.{VectStop}
use Rattle.term_lists.specs.declared.stop.VectStop.TheVariants.{Memory, Degree}
use Rattle.term_lists.specs.Stops.{Fits, HasMonomial, IsTooGreat}
use Rattle.sparse_poly.specs.Powers.{polynomial_power}

-- each monomial of a times each of b fits
abbrev pub ProductFits : List (CodeKey × ℕ) → List (CodeKey × ℕ) → Type 0
ProductFits a b = Each (λ t. Fits t.0.monomial b) a

-- Degree comes where a monomial of a times one of b has too great a degree, and carries these two
abbrev pub PolynomialProductStops : List (CodeKey × ℕ) → List (CodeKey × ℕ) → VectStop → Type 0
PolynomialProductStops a b Memory = ⊤
PolynomialProductStops a b (Degree s t) = HasMonomial a s × HasMonomial b t × IsTooGreat s t

-- the polynomial has a term with this monomial, modulo p
abbrev pub OccursInPolynomial : {n : ℕ} → ℕ → FormalSum n → Exponents n → Type 0
OccursInPolynomial p v m = IsCongruent p (coefficient v (0, m)) 0 → ⊥

-- each monomial of a power times each of another fits, where the exponents sum to at most k
abbrev pub PowersFit : {n : ℕ} → List ℕ → ℕ → FormalSum n → ℕ → Type 0
PowersFit {n} ws p v k =
    (i j : ℕ) (a b : Exponents n) → i + j ≤ k → OccursInPolynomial p (polynomial_power v i) a → OccursInPolynomial p (polynomial_power v j) b
    → weighted_degree ws a + weighted_degree ws b ≤ 65535

-- Degree comes where monomials of two powers, with exponents that sum to at most k, have too great a degree together
abbrev pub PowerStops : (n : ℕ) → List ℕ → ℕ → FormalSum n → ℕ → VectStop → Type 0
PowerStops n ws p v k Memory = ⊤
PowerStops n ws p v k (Degree s t) =
    (i : ℕ) × (j : ℕ) × (i + j ≤ k) × OccursInPolynomial p (polynomial_power v i) (exponents_of n s.exponents) × OccursInPolynomial p (polynomial_power v j) (exponents_of n t.exponents)
    × IsTooGreat s t × IsWeighed n ws s × IsWeighed n ws t
