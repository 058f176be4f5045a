-- Rows that lost their columns, each gone or replaced by what is left of it
use Rattle.std.specs.Prelude.{List, [], ℕ, ◌++◌, ◌∷◌, ◌≡◌, ◌⊎◌}
use Rattle.pivot_table.specs.declared.law.Entry.{Entry as Told}
use Rattle.row_matrix.specs.Rows.{RowShown, first_column, shown_row_at}
use Rattle.dense_reduction.specs.Rests.{IsGone, IsRowLeft, IsRestFrom, rows_left}
use Rattle.dense_reduction.specs.declared.lefts.Left.{Left}
use Rattle.dense_reduction.specs.declared.lefts.Lost.{Lost}

-- new is old where the row is gone, and else old and what is left in its place
abbrev pub IsReplaced : (p columns inputs : ℕ) → List RowShown → List Told → Lost → List Left → List Left → Type 0
IsReplaced p columns inputs rows told l old new =
    ((new ≡ old) × IsGone p rows (rows_left old) told (shown_row_at rows l.number))
    ⊎ ((r : RowShown) × (new ≡ old ++ record { number = l.number; row = r } ∷ [])
    × IsRowLeft p columns inputs rows (rows_left old) told (shown_row_at rows l.number) r)

-- r is left of the row, with no higher lead
abbrev pub IsLowered : (p columns inputs : ℕ) → List RowShown → List RowShown → List Told → RowShown → RowShown → Type 0
IsLowered p columns inputs rows own told row r = IsRestFrom p columns inputs (first_column row.entries) rows own told row r

-- new is old where the row is gone, and else old and what stands for it, in the place of the row with this number
abbrev pub IsRestKept : (p columns inputs : ℕ) → List RowShown → List Told → ℕ → RowShown → List Left → List Left → Type 0
IsRestKept p columns inputs rows told number row old new =
    ((new ≡ old) × IsGone p rows (rows_left old) told row)
    ⊎ ((r : RowShown) × (new ≡ old ++ record { number = number; row = r } ∷ [])
    × IsLowered p columns inputs rows (rows_left old) told row r)

-- each of these rows in turn is gone, or what is left of it stands behind the others
abbrev pub AreReplaced : (p columns inputs : ℕ) → List RowShown → List Told → List Lost → List Left → List Left → Type 0
AreReplaced p columns inputs rows told [] old new = new ≡ old
AreReplaced p columns inputs rows told (l ∷ lost) old new =
    (between : List Left) × IsReplaced p columns inputs rows told l old between × AreReplaced p columns inputs rows told lost between new
