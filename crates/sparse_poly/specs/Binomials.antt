-- Binomial coefficients, and sums of powers of two polynomials
use Rattle.std.specs.Prelude.{[], suc, zero, ℕ, ◌+◌, ◌++◌, ◌≡◌}
use Rattle.monomials.specs.Exponents.{unit}
use Rattle.formal_sums.specs.FormalSums.{FormalSum, IsSame, product, scale}
use Rattle.sparse_poly.specs.Powers.{polynomial_power}

-- the binomial coefficient n over k, by Pascal's triangle
abbrev pub choose : ℕ → ℕ → ℕ
choose zero zero = 1
choose zero (suc k) = 0
choose (suc n) zero = 1
choose (suc n) (suc k) = choose n k + choose n (suc k)

-- the binary form with d coefficients: the sum of c(i) u^(d - 1 - i) v^i for i below d
abbrev pub binary_form : {n : ℕ} → (ℕ → ℕ) → FormalSum n → FormalSum n → ℕ → FormalSum n
binary_form c u v zero = []
binary_form {n} c u v (suc d) = scale (c 0) (unit n) (polynomial_power u d) ++ product v (binary_form (λ i. c (suc i)) u v d)

-- what is done, with the terms from the coefficient i on, is (u + v)^k, modulo p
pub record IsExpanding {n : ℕ} (p k i : ℕ) (u v done : FormalSum n) : Type 0 where
  pub sums : (j : ℕ) → i + j ≡ k + 1
      → IsSame p (done ++ product (polynomial_power v i) (binary_form (λ l. choose k (i + l)) u v j)) (polynomial_power (u ++ v) k)
