-- What rows that words name and a helper's own ones leave of a row
use Rattle.std.specs.Prelude.{List, Option, [], length, map, ℕ, ◌+◌, ◌++◌, ◌<◌, ◌∷◌, ◌≡◌, ◌≤◌}
use Rattle.formal_sums.specs.FormalSums.{FormalSum, Key}
use Rattle.pivot_table.specs.declared.law.Entry.{Entry as Told}
use Rattle.row_matrix.specs.Rows.{IsRow, RowShown, first_column}
use Rattle.dense_reduction.specs.Pivots.{lead_column}
use Rattle.dense_reduction.specs.Underway.{AreRowsCombined, IsSpanned}
use Rattle.dense_reduction.specs.Words.{AreAsTold, named}
use Rattle.dense_reduction.specs.declared.lefts.Left.{Left}

-- the rows that are left
abbrev pub rows_left : List Left → List RowShown
rows_left left = map (λ (l : Left). l.row) left

-- nothing is left of the row: the rows that were told and the helper's own ones span it
abbrev pub IsGone : ℕ → List RowShown → List RowShown → List Told → RowShown → Type 0
IsGone p rows own told row = (words : List (Option ℕ)) → AreAsTold words told → IsSpanned p (named rows words ++ own) row

-- r is left of the row from this column on: its lead is no own row's, and with the rows that were told and the helper's own ones it spans
-- the row
pub record IsRestFrom (p columns inputs column : ℕ) (rows own : List RowShown) (told : List Told) (row r : RowShown) : Type 0 where
  pub good : IsRow p columns inputs r
  pub lower : column ≤ first_column r.entries
  pub apart : (k : ℕ) → k < length own → lead_column own k ≡ first_column r.entries → ⊥
  pub combined :
      (n : ℕ) (F : List (FormalSum n)) (key : ℕ → Key n)
      → AreRowsCombined p F key (rows ++ own) → AreRowsCombined p F key (row ∷ []) → AreRowsCombined p F key (r ∷ [])
  pub inside : (words : List (Option ℕ)) → AreAsTold words told → IsSpanned p ((named rows words ++ own) ++ r ∷ []) row
  pub outside : IsSpanned p ((rows ++ own) ++ row ∷ []) r

-- r is left of the row, with a lower lead
abbrev pub IsRowLeft : (p columns inputs : ℕ) → List RowShown → List RowShown → List Told → RowShown → RowShown → Type 0
IsRowLeft p columns inputs rows own told row r = IsRestFrom p columns inputs (first_column row.entries + 1) rows own told row r
