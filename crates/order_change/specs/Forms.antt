-- Normal forms by their residues over the standard monomials (IVA chapter 5, section 2)
use Rattle.std.specs.Prelude.{List, [], get_or, length, slice_index, suc, zero, ℕ, ◌∷◌, ◌<◌, ◌≡◌, ◌≤◌}
use Rattle.monomials.specs.Exponents.{Exponents, times, unit}
use Rattle.formal_sums.specs.FormalSums.{FormalSum}
use Rattle.change_laws.specs.Combinations.{IsSameModulo, expansion}

-- so many residues of p
pub record AreResidues (p d : ℕ) (row : List ℕ) : Type 0 where
  pub long : length row ≡ d
  pub small : (k : ℕ) → slice_index row k < p

-- the residues stand from `low` on and before `high`; the others are 0
pub record IsFormWithin (low high : ℕ) (residues : List ℕ) : Type 0 where
  pub within : high ≤ length residues
  pub before : (j : ℕ) → j < low → slice_index residues j ≡ 0
  pub behind : (j : ℕ) → high ≤ j → slice_index residues j ≡ 0

-- the first k of the residues, and zeros
abbrev pub before : ℕ → (ℕ → ℕ) → ℕ → ℕ
before zero f j = 0
before (suc k) f zero = f 0
before (suc k) f (suc j) = before k (λ i. f (suc i)) j

-- the monomial as a vector
abbrev pub monomial_vector : {n : ℕ} → Exponents n → FormalSum n
monomial_vector m = ((0, m), 1) ∷ []

-- modulo the ideal of F, v is the combination of the monomials B by the row
abbrev pub IsRowForm : {n : ℕ} → ℕ → List (FormalSum n) → List (Exponents n) → FormalSum n → List ℕ → Type 0
IsRowForm p F B v row = IsSameModulo p F v (expansion B (slice_index row))

-- where the form has a residue, the row at that index is the form of x times the monomial at that index
abbrev pub AreProductsOf : {n : ℕ} → ℕ → List (FormalSum n) → List (Exponents n) → Exponents n → (rows : List (List ℕ)) → (form : List ℕ) → Type 0
AreProductsOf {n} p F B x rows form =
    (k : ℕ) → k < length form → 0 < slice_index form k → IsRowForm p F B (monomial_vector (times x (get_or B k (unit n)))) (get_or rows k [])
