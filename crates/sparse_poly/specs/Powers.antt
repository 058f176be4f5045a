-- Powers and constants (IVA chapter 1, section 1)
use Rattle.std.specs.Prelude.{[], zero, suc, ℕ, ◌∷◌}
use Rattle.monomials.specs.Exponents.{unit}
use Rattle.formal_sums.specs.FormalSums.{FormalSum, product}

-- the constant c
abbrev pub constant : (n c : ℕ) → FormalSum n
constant n c = ((0, unit n), c) ∷ []

-- v multiplied k times; with k = 0 the constant 1, also of the polynomial 0
abbrev pub polynomial_power : {n : ℕ} → FormalSum n → ℕ → FormalSum n
polynomial_power {n} v zero = constant n 1
polynomial_power v (suc k) = product v (polynomial_power v k)
