-- Passes: helpers claim the lead columns of rows, and replace each row that did not win its column by what pivots leave of it
-- (Faugère 1999, section 2; the claims are those of `pivot_table`)
use Rattle.std.specs.Prelude.{List, Option, length, map, ℕ, ◌++◌, ◌<◌, ◌≡◌}
use Rattle.std.specs.List.Sorted.{IsPermutation}
use Rattle.formal_sums.specs.FormalSums.{Each, FormalSum, Key}
use Rattle.pivot_table.specs.Law.{LeadsFit}
use Rattle.pivot_table.specs.declared.law.Entry.{Entry as Told}
use Rattle.row_matrix.specs.Rows.{IsRow, RowShown, first_column, shown_row_at}
use Rattle.dense_reduction.specs.Pivots.{lead_column}
use Rattle.dense_reduction.specs.Rests.{rows_left}
use Rattle.dense_reduction.specs.Underway.{AreRowsCombined, IsSpanned}
use Rattle.dense_reduction.specs.Words.{AreAsTold, WordNames, row_leads_of, named}
use Rattle.dense_reduction.specs.declared.lefts.Left.{Left}

-- the numbers of the rows in whose places these stand
abbrev pub places : List Left → List ℕ
places left = map (λ (l : Left). l.number) left

-- what is left in the place of a row has a lower lead, and another row has that row's column
pub record IsLeftOf (rows : List RowShown) (words : List (Option ℕ)) (l : Left) : Type 0 where
  pub winner : ℕ
  pub other : winner ≡ l.number → ⊥
  pub lost : WordNames words (lead_column rows l.number) winner
  pub lower : lead_column rows l.number < first_column l.row.entries

-- what helpers leave of the rows with these numbers, whatever the words are at the end: each of these rows has its column, or another
-- has it and then it is gone or replaced; rows told and rows left span all of them, and are combinations of input rows where all are
pub record AreHelped (p columns inputs : ℕ) (rows : List RowShown) (mine : List ℕ) (told : List Told) (left : List Left) : Type 0 where
  pub good : Each (IsRow p columns inputs) (rows_left left)
  pub gone : List ℕ
  pub split : IsPermutation mine (places left ++ gone)
  pub replaced : (words : List (Option ℕ)) → AreAsTold words told → Each (IsLeftOf rows words) left
  pub claimed : (words : List (Option ℕ)) → AreAsTold words told → Each (λ m. (k : ℕ) × WordNames words (lead_column rows m) k) mine
  pub inside :
      (words : List (Option ℕ)) → AreAsTold words told → Each (λ m. IsSpanned p (named rows words ++ rows_left left) (shown_row_at rows m)) mine
  pub outside : Each (IsSpanned p rows) (rows_left left)
  pub combined : (n : ℕ) (F : List (FormalSum n)) (key : ℕ → Key n) → AreRowsCombined p F key rows → AreRowsCombined p F key (rows_left left)

-- one pass over the rows with these numbers: the words of the columns before it and after it, and the rows left
pub record IsPass
    (p columns inputs : ℕ) (rows : List RowShown) (held : List (Option ℕ)) (pending : List ℕ) (words : List (Option ℕ)) (left : List Left)
    : Type 0 where
  pub wide : length words ≡ length held
  pub fits : LeadsFit (row_leads_of rows) words
  pub stayed : (column row : ℕ) → WordNames held column row → WordNames words column row
  pub good : Each (IsRow p columns inputs) (rows_left left)
  pub gone : List ℕ
  pub split : IsPermutation pending (places left ++ gone)
  pub replaced : Each (IsLeftOf rows words) left
  pub claimed : Each (λ m. (k : ℕ) × WordNames words (lead_column rows m) k) pending
  pub inside : Each (λ m. IsSpanned p (named rows words ++ rows_left left) (shown_row_at rows m)) pending
  pub outside : Each (IsSpanned p rows) (rows_left left)
  pub combined : (n : ℕ) (F : List (FormalSum n)) (key : ℕ → Key n) → AreRowsCombined p F key rows → AreRowsCombined p F key (rows_left left)
