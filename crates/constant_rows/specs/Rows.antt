-- Vectors of constants by the residues of their rows
use Rattle.std.specs.Prelude.{Contains, List, [], get_or, map, ℕ, ◌++◌, ◌+◌, ◌<◌, ◌∷◌, ◌^◌, ◌≡◌, ◌⊎◌}
use Rattle.monomials.specs.Exponents.{unit}
use Rattle.formal_sums.specs.FormalSums.{Each, FormalSum, IsSame, scale}

-- the constants in the rows from i on, by their coefficients
abbrev pub row_constants : (n : ℕ) → ℕ → List ℕ → FormalSum n
row_constants n i [] = []
row_constants n i (a ∷ sums) = ((i, unit n), a) ∷ row_constants n (i + 1) sums

-- the constants that are listed, a row and a coefficient each
abbrev pub entry_constants : (n : ℕ) → List (ℕ × ℕ) → FormalSum n
entry_constants n entries = map (λ e. ((e.0, unit n), e.1)) entries

-- the new sums are the old ones and `factor` times the constants
abbrev pub AddsConstants : ℕ → ℕ → List (ℕ × ℕ) → List ℕ → List ℕ → Type 0
AddsConstants p factor entries old new =
    (n : ℕ) → IsSame p (row_constants n 0 new) (row_constants n 0 old ++ scale factor (unit n) (entry_constants n entries))

-- all are 0
abbrev pub AreZeros : List ℕ → Type 0
AreZeros sums = Each (λ a. a ≡ 0) sums

-- each sum has room for a product of residues more in 64 bits, and is 0 where its row was not touched
pub record AreRowSums (sums touched : List ℕ) : Type 0 where
  pub small : Each (λ a. a < 2 ^ 63) sums
  pub touched_or_zero : (i : ℕ) → (get_or sums i 0 ≡ 0) ⊎ Contains touched i
