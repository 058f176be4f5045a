-- Rows in echelon form, and rows between two passes
use Rattle.std.specs.Prelude.{Contains, List, Option, [], eqb, get_or, length, map, slice_set, sum_by}
use Rattle.std.specs.Prelude.{ℕ, ◌++◌, ◌-◌, ◌<◌, ◌∷◌, ◌≡◌, ◌≤◌, ◌⊎◌}
use Rattle.std.specs.List.{IsDistinct}
use Rattle.std.specs.List.Sorted.{IsPermutation}
use Rattle.formal_sums.specs.FormalSums.{Each, FormalSum, Key}
use Rattle.pivot_table.specs.Law.{LeadsFit}
use Rattle.row_laws.specs.Rows.{IsInSpan}
use Rattle.row_matrix.specs.Rows.{IsRow, RowShown, shown_row_at}
use Rattle.dense_reduction.specs.Pivots.{lead_column, row_vectors}
use Rattle.dense_reduction.specs.Underway.{AreRowsCombined, IsSpanned}
use Rattle.dense_reduction.specs.Words.{AreRowsReady, WordNames, named}
use Rattle.dense_reduction.specs.declared.lefts.Left.{Left}
use Rattle.row_reduce.specs.Passes.{IsPass}

-- E is an echelon form of the rows M: monic rows with columns of their own, as many as M at most, in one span with M, with a row for each
-- first column of M, and combinations of input rows where those of M are
pub record IsEchelonOf (p columns inputs : ℕ) (M E : List RowShown) : Type 0 where
  pub rows : Each (IsRow p columns inputs) E
  pub apart : (j k : ℕ) → j < k → k < length E → lead_column E j ≡ lead_column E k → ⊥
  pub few : length E ≤ length M
  pub leads : (i : ℕ) → i < length M → (k : ℕ) × (k < length E) × (lead_column E k ≡ lead_column M i)
  pub inside : (n : ℕ) (key : ℕ → Key n) (i : ℕ) → i < length M → IsInSpan p (row_vectors key E) (get_or (row_vectors key M) i [])
  pub outside : (n : ℕ) (key : ℕ → Key n) (k : ℕ) → k < length E → IsInSpan p (row_vectors key M) (get_or (row_vectors key E) k [])
  pub combined : (n : ℕ) (F : List (FormalSum n)) (key : ℕ → Key n) → AreRowsCombined p F key M → AreRowsCombined p F key E

-- rows between two passes with the leads that are known, the words of the columns, and the numbers of those that have no column yet
pub record AreBetween
    (p columns inputs : ℕ) (rows : List RowShown) (leads : List ℕ) (held : List (Option ℕ)) (pending : List ℕ)
    : Type 0 where
  pub ready : AreRowsReady p columns inputs rows leads held
  pub fits : LeadsFit leads held
  pub known : Each (λ k. k < length rows) pending
  pub apart : IsDistinct eqb pending

-- they come from the rows M: each lead of M has its column or is pending, those with columns and those pending span M, and all are in the
-- span of M, and combinations of input rows where those of M are
pub record AreFrom (p : ℕ) (M rows : List RowShown) (held : List (Option ℕ)) (pending : List ℕ) : Type 0 where
  pub count : length rows ≡ length M
  pub leads :
      (i : ℕ) → i < length M
      → ((k : ℕ) × WordNames held (lead_column M i) k) ⊎ (Contains pending i × (lead_column rows i ≡ lead_column M i))
  pub inside : Each (IsSpanned p (named rows held ++ map (shown_row_at rows) pending)) M
  pub outside : Each (IsSpanned p M) rows
  pub combined : (n : ℕ) (F : List (FormalSum n)) (key : ℕ → Key n) → AreRowsCombined p F key M → AreRowsCombined p F key rows

-- the rows with these in their places
abbrev pub with_left : List RowShown → List Left → List RowShown
with_left rows [] = rows
with_left rows (l ∷ left) = with_left (slice_set rows l.number l.row) left

-- one pass over some of the pending rows, one at least: the words after it, the rows left, and the numbers of those for later passes
pub record IsPassOverSome
    (p columns inputs : ℕ) (rows : List RowShown) (held : List (Option ℕ)) (pending : List ℕ) (words : List (Option ℕ)) (left : List Left)
    (later : List ℕ) : Type 0 where
  pub now : List ℕ
  pub some : 0 < length now
  pub parts : IsPermutation pending (now ++ later)
  pub pass : IsPass p columns inputs rows held now words left

-- how many columns there are behind the leads of these rows, all told
abbrev pub columns_behind : ℕ → List RowShown → List ℕ → ℕ
columns_behind columns rows pending = sum_by (λ k. columns - lead_column rows k) pending
