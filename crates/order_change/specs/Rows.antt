-- Rows in echelon form
use Rattle.std.specs.Prelude.{List, get_or, length, slice_index, ℕ, ◌<◌, ◌≡◌, ◌≤◌}
use Rattle.residues.specs.Residues.{IsCongruent}
use Rattle.monomials.specs.Exponents.{Exponents}
use Rattle.formal_sums.specs.FormalSums.{FormalSum}
use Rattle.change_laws.specs.Combinations.{IsSameModulo, expansion}
use Rattle.order_change.specs.Forms.{AreResidues}
use Rattle.order_change.specs.declared.rows.Row.{Row}

-- d residues of p, 1 at the pivot, and the residues of at most m monomials
pub record IsPivotRow (p d m : ℕ) (row : Row) : Type 0 where
  pub form : AreResidues p d row.form
  pub small : (k : ℕ) → slice_index row.combination k < p
  pub short : length row.combination ≤ m
  pub pivot : row.pivot < d
  pub one : slice_index row.form row.pivot ≡ 1

-- each row is such, and later rows are 0 at its pivot
pub record AreRows (p d m : ℕ) (rows : List Row) : Type 0 where
  pub each : (l : ℕ) (row : Row) → l < length rows → get_or rows l row ≡ row → IsPivotRow p d m row
  pub later :
      (l i : ℕ) (row other : Row)
      → l < i → i < length rows → get_or rows l row ≡ row → get_or rows i other ≡ other → slice_index other.form row.pivot ≡ 0

-- modulo the ideal of F, each row is the combination of the monomials N by its other residues
abbrev pub AreSame : {n : ℕ} → ℕ → List (FormalSum n) → (B N : List (Exponents n)) → List Row → Type 0
AreSame p F B N rows =
    (l : ℕ) (row : Row)
    → l < length rows → get_or rows l row ≡ row
    → IsSameModulo p F (expansion B (slice_index row.form)) (expansion N (slice_index row.combination))

-- the form is 0 at the pivots of the first i rows
abbrev pub IsCleared : List Row → List ℕ → (i : ℕ) → Type 0
IsCleared rows form i = (l : ℕ) (row : Row) → l < i → l < length rows → get_or rows l row ≡ row → slice_index form row.pivot ≡ 0

-- so it is modulo p
abbrev pub IsClearedModulo : (p : ℕ) → List Row → List ℕ → (i : ℕ) → Type 0
IsClearedModulo p rows form i =
    (l : ℕ) (row : Row) → l < i → l < length rows → get_or rows l row ≡ row → IsCongruent p (slice_index form row.pivot) 0
