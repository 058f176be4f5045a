-- A row that is being reduced in a pass, by rows that words name and by a helper's own ones
use Rattle.std.specs.Prelude.{List, MatchOption, None, Option, Some, get_or, length, ℕ, ◌+◌, ◌++◌, ◌<◌, ◌≡◌, ◌≤◌}
use Rattle.formal_sums.specs.Combinations.{combination}
use Rattle.formal_sums.specs.FormalSums.{Each, FormalSum, IsSame, Key}
use Rattle.pivot_table.specs.declared.law.Entry.{Entry as Told}
use Rattle.row_matrix.specs.Rows.{Entry, RowShown, first_column, row_sum, shown_row_at, source_key}
use Rattle.dense_reduction.specs.Pivots.{lead_column}
use Rattle.dense_reduction.specs.Underway.{AreRowsCombined, IsCombinedDense, IsReducedRow, IsSpanned}
use Rattle.dense_reduction.specs.Words.{AreAsTold, named}

-- of the pass's rows and the own ones behind them, the one with this number has its lead at the column; the rows told and the own ones
-- span it
pub record IsPivotFor (p : ℕ) (rows own : List RowShown) (told : List Told) (column number : ℕ) : Type 0 where
  pub known : number < length (rows ++ own)
  pub lead : lead_column (rows ++ own) number ≡ column
  pub spanned : (words : List (Option ℕ)) → AreAsTold words told → IsSpanned p (named rows words ++ own) (shown_row_at (rows ++ own) number)

-- the column has this pivot, or none where none of the own rows is its pivot
abbrev pub HasPivot : ℕ → List RowShown → List RowShown → List ℕ → List Told → ℕ → Option ℕ → Type 0
HasPivot p rows own pivots told column pivot = MatchOption pivot (get_or pivots column 0 ≡ 0) (IsPivotFor p rows own told column)

-- the least column at which something can be left of a row: a pivot clears its first column, and without one its first entry stays
abbrev pub least_left : List Entry → Option ℕ → ℕ
least_left entries None = first_column entries
least_left entries (Some pivot) = first_column entries + 1

-- the row is the sum of what is left of it, from this column on, of the numbers and of a vector in the span of the rows told and the
-- own ones, so too for all rows; what is left and the numbers are the combination of input rows by the sources of the row and of those added
pub record IsReducedSoFar
    (p column : ℕ) (rows own : List RowShown) (told : List Told) (row : RowShown) (left : List Entry) (numbers : List ℕ) (taken : List Entry)
    : Type 0 where
  pub above : Each (λ e. column ≤ e.0) left
  pub inside : (words : List (Option ℕ)) → AreAsTold words told → IsReducedRow p (named rows words ++ own) row left numbers
  pub outside : IsReducedRow p (rows ++ own) row left numbers
  pub combined :
      (n : ℕ) (F : List (FormalSum n)) (key : ℕ → Key n)
      → AreRowsCombined p F key (rows ++ own) → IsSame p (combination F (row_sum (source_key n) row.sources)) (row_sum key row.entries)
      → IsCombinedDense p F key (rows ++ own) row left numbers taken
