-- Terms, polynomials and vectors that have texts of their own
use Rattle.std.specs.Prelude.{List, ℕ, ℤ, negsuc, pos, ◌<◌, ◌≡◌, ◌^◌}
use Rattle.std.specs.declared.cmp.Ordering.{Ordering}
use Rattle.formal_sums.specs.FormalSums.{Each, Key as KeyOf}
use Rattle.orders.specs.KeyOrders.{Descends}
use Rattle.monomial_orders.specs.Kept.{IsWeighed}
use Rattle.term_lists.specs.Vectors.{HasPositions, sum_of}
use Rattle.term_lists.specs.declared.key.Key.{Key}

-- the term has a monomial in n variables of these weights, its residue is not 0, and its numbers have at most 64 bits
pub record IsPrintable (n : ℕ) (ws : List ℕ) (t : Key × ℕ) : Type 0 where
  pub weighed : IsWeighed n ws t.0.monomial
  pub nonzero : 0 < t.1
  pub residue : t.1 < 2 ^ 64
  pub exponents : Each (λ e. e < 2 ^ 64) t.0.monomial.exponents

-- a polynomial: such terms, all at position 0, in any order
pub record IsPrintablePolynomial (n : ℕ) (ws : List ℕ) (terms : List (Key × ℕ)) : Type 0 where
  pub each : Each (IsPrintable n ws) terms
  pub positions : Each (λ t. t.0.position ≡ 0) terms

-- a vector: such terms at positions below the rank, their keys strictly descending
pub record IsPrintableVector (n : ℕ) (ws : List ℕ) (rank : ℕ) (compare : KeyOf n → KeyOf n → Ordering) (terms : List (Key × ℕ)) : Type 0 where
  pub each : Each (IsPrintable n ws) terms
  pub positions : HasPositions rank terms
  pub descends : Descends compare (sum_of n terms)

-- a signed number of 128 bits
abbrev pub IsPrintableNumber : ℤ → Type 0
IsPrintableNumber (pos n) = n < 2 ^ 127
IsPrintableNumber (negsuc n) = n < 2 ^ 127
