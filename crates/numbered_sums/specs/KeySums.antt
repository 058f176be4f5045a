-- Sums with a number for each key (Faugère 1999, section 2)
use Rattle.std.specs.Prelude.{Contains, List, [], get_or, length, ℕ, ◌+◌, ◌++◌, ◌<◌, ◌∷◌, ◌^◌, ◌≡◌, ◌⊎◌}
use Rattle.monomials.specs.Exponents.{unit}
use Rattle.formal_sums.specs.FormalSums.{Each, FormalSum, IsSame, Key, scale}
use Rattle.row_matrix.specs.Rows.{Entry, row_sum}

-- what sums for the numbers from i on stand for, where each number stands for this key
abbrev pub numbered_sum : {n : ℕ} → (ℕ → Key n) → ℕ → List ℕ → FormalSum n
numbered_sum key i [] = []
numbered_sum key i (a ∷ sums) = (key i, a) ∷ numbered_sum key (i + 1) sums

-- the sums have room for the product of two residues more in 64 bits
abbrev pub AreSmall : List ℕ → Type 0
AreSmall sums = Each (λ a. a < 2 ^ 63) sums

-- entries of so many numbers, in any order
abbrev pub AreEntriesWithin : ℕ → ℕ → List Entry → Type 0
AreEntriesWithin p count entries = Each (λ e. (e.0 < count) × (e.1 < p)) entries

-- new is old and `factor` times the entries
pub record AddsProduct (p factor : ℕ) (entries : List Entry) (old new : List ℕ) : Type 0 where
  pub count : length new ≡ length old
  pub sum :
      (n : ℕ) (key : ℕ → Key n)
      → IsSame p (numbered_sum key 0 new) (numbered_sum key 0 old ++ scale factor (unit n) (row_sum key entries))

-- all sums are 0
abbrev pub AreZeroSums : List ℕ → Type 0
AreZeroSums sums = Each (λ a. a ≡ 0) sums

-- all sums that are not 0 were touched
abbrev pub AreTouched : List ℕ → List ℕ → Type 0
AreTouched touched sums = (i : ℕ) → i < length sums → (get_or sums i 0 ≡ 0) ⊎ Contains touched i
