-- Rows in echelon form whose tails are reduced by the rows with lower leads
use Rattle.std.specs.Prelude.{List, Option, [], length, ℕ, ◌++◌, ◌<◌, ◌≡◌}
use Rattle.formal_sums.specs.FormalSums.{Each, FormalSum, Key}
use Rattle.pivot_table.specs.declared.law.Entry.{Entry as Told}
use Rattle.row_matrix.specs.Rows.{IsRow, RowShown, first_column}
use Rattle.dense_reduction.specs.Pivots.{lead_column}
use Rattle.dense_reduction.specs.Underway.{AreRowsCombined, IsSpanned}
use Rattle.dense_reduction.specs.Words.{AreAsTold, named, row_leads_of}
use Rattle.row_reduce.specs.Replaced.{IsLowered}

-- no two of the rows have one first column
abbrev pub AreApart : List RowShown → Type 0
AreApart rows = (j k : ℕ) → j < k → k < length rows → lead_column rows j ≡ lead_column rows k → ⊥

-- r is the row with its tail reduced by the own rows: what is left of it, with the same first column
abbrev pub HasTailReduced : (p columns inputs : ℕ) → List RowShown → List RowShown → List Told → RowShown → RowShown → Type 0
HasTailReduced p columns inputs rows own told row r =
    (first_column r.entries ≡ first_column row.entries) × IsLowered p columns inputs rows own told row r

-- K are the rows E with tails reduced: rows with the same first columns in the same order, which E spans and which span E with what words
-- name of no rows, and combinations of input rows where those of E are
pub record AreTailsReduced (p columns inputs : ℕ) (told : List Told) (E K : List RowShown) : Type 0 where
  pub rows : Each (IsRow p columns inputs) K
  pub leads : row_leads_of K ≡ row_leads_of E
  pub inside : (words : List (Option ℕ)) → AreAsTold words told → Each (IsSpanned p (named [] words ++ K)) E
  pub outside : Each (IsSpanned p E) K
  pub combined : (n : ℕ) (F : List (FormalSum n)) (key : ℕ → Key n) → AreRowsCombined p F key E → AreRowsCombined p F key K
