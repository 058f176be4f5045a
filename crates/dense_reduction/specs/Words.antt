-- The words of columns, each of which names the row that has the column, and what is told of them (the claims of `pivot_table`)
use Rattle.std.specs.Prelude.{All, List, None, Option, Some, [], length, map, slice_get, ℕ, ◌+◌, ◌++◌, ◌<◌, ◌∷◌, ◌≡◌}
use Rattle.formal_sums.specs.FormalSums.{Each}
use Rattle.pivot_table.specs.declared.law.Entry.{Entry as Told}
use Rattle.row_matrix.specs.Rows.{IsRow, RowShown, first_column, shown_row_at}
use Rattle.dense_reduction.specs.Pivots.{lead_column}

-- the first column of each row
abbrev pub row_leads_of : List RowShown → List ℕ
row_leads_of rows = map (λ r. first_column r.entries) rows

-- the rows that words name, column after column
abbrev pub named : List RowShown → List (Option ℕ) → List RowShown
named rows [] = []
named rows (None ∷ words) = named rows words
named rows (Some k ∷ words) = shown_row_at rows k ∷ named rows words

-- the column's word names this row
abbrev pub WordNames : List (Option ℕ) → ℕ → ℕ → Type 0
WordNames words column k = slice_get words column ≡ Some (Some k)

-- the words are as was told
abbrev pub AreAsTold : List (Option ℕ) → List Told → Type 0
AreAsTold words told = All (λ (e : Told). (k : ℕ) → e.after ≡ k + 1 → WordNames words e.column k) told

-- new was told after old
abbrev pub IsToldAfter : List Told → List Told → Type 0
IsToldAfter old new = (more : List Told) × (new ≡ old ++ more)

-- the row with this number has this lead, and whatever the words are at the end, they name it there
pub record IsTold (rows : List RowShown) (told : List Told) (column k : ℕ) : Type 0 where
  pub known : k < length rows
  pub lead : lead_column rows k ≡ column
  pub named : (words : List (Option ℕ)) → AreAsTold words told → WordNames words column k

-- monic rows over as many columns as have words, and the leads that claims know are theirs
pub record AreRowsReady (p columns inputs : ℕ) (rows : List RowShown) (leads : List ℕ) (held : List (Option ℕ)) : Type 0 where
  pub monic : Each (IsRow p columns inputs) rows
  pub known : leads ≡ row_leads_of rows
  pub wide : length held ≡ columns
