-- What contracts see of a monomial
use Rattle.std.specs.Prelude.{List, length, map, slice_index, ℕ, ◌<◌, ◌≡◌}
use Rattle.monomials.specs.Exponents.{Exponents, exponents_of}
use Rattle.monomials.specs.Weights.{weighted_degree}

-- a monomial: its exponents, and the degree that is kept with them
pub record Monomial : Type 0 where
  pub exponents : List ℕ
  pub degree : ℕ

-- the monomials in n variables that the code's are
abbrev pub monomials : (n : ℕ) → List Monomial → List (Exponents n)
monomials n ms = map (λ m. exponents_of n m.exponents) ms

-- m is a monomial in n variables of these weights: an exponent for each, and the degree by the weights
pub record IsWeighed (n : ℕ) (ws : List ℕ) (m : Monomial) : Type 0 where
  pub variables : length m.exponents ≡ n
  pub degree : m.degree ≡ weighted_degree ws (exponents_of n m.exponents)

-- some weights have given both degrees
abbrev pub HaveCommonWeights : ℕ → Monomial → Monomial → Type 0
HaveCommonWeights n a b = (ws : List ℕ) × IsWeighed n ws a × IsWeighed n ws b

-- what each list of weights keeps: none is 0
abbrev pub AreWeights : List ℕ → Type 0
AreWeights ws = (k : ℕ) → k < length ws → 0 < slice_index ws k
