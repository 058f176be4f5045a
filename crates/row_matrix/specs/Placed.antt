-- Rows over columns, made of rows over numbers of keys
use Rattle.std.specs.Prelude.{List, get_or, map, ℕ, ◌≡◌}
use Rattle.std.specs.declared.cmp.Ordering.{Ordering}
use Rattle.formal_sums.specs.FormalSums.{Key}
use Rattle.term_lists.specs.declared.key.Key.{Key as CodeKey}
use Rattle.row_matrix.specs.Naming.{IsNumbering}
use Rattle.row_matrix.specs.Rows.{Entry, MatrixShown, RowShown}

-- the entries, each with the place of its number
abbrev pub placed_entries : List ℕ → List Entry → List Entry
placed_entries places entries = map (λ e. (get_or places e.0 0, e.1)) entries

-- the row with its entries so
abbrev pub placed_row : List ℕ → RowShown → RowShown
placed_row places r = record { entries = placed_entries places r.entries; sources = r.sources }

-- the matrix has the keys as columns, which descend, and the rows with their entries so
pub record IsPlacedMatrix (n : ℕ) (ws : List ℕ) (compare : Key n → Key n → Ordering) (keys : List CodeKey) (inputs : ℕ)
    (rows : List RowShown) (m : MatrixShown) : Type 0 where
  pub places : List ℕ
  pub numbering : IsNumbering n ws compare keys m.columns places
  pub input_rows : m.inputs ≡ inputs
  pub placed : m.rows ≡ map (λ r. placed_row places r) rows
