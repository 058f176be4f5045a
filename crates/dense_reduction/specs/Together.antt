-- Up to eight rows that lost their columns, which are reduced together
use Rattle.std.specs.Prelude.{List, None, Option, Some, [], cond, get_or, length, map, nat_eq, ⊤, ℕ, ◌+◌, ◌++◌, ◌-◌, ◌<◌, ◌∷◌, ◌≡◌, ◌≤◌}
use Rattle.residues.specs.Residues.{IsCongruent}
use Rattle.pivot_table.specs.declared.law.Entry.{Entry as Told}
use Rattle.row_matrix.specs.Rows.{Entry, RowShown, shown_row_at}
use Rattle.dense_reduction.specs.Dense.{AddsMultiple}
use Rattle.dense_reduction.specs.Eights.{lane}
use Rattle.dense_reduction.specs.Pivots.{lead_column}
use Rattle.dense_reduction.specs.Reductions.{IsReducedSoFar}
use Rattle.dense_reduction.specs.Rests.{IsGone, IsRowLeft}
use Rattle.dense_reduction.specs.Underway.{IsRowUnderway}
use Rattle.dense_reduction.specs.declared.lefts.Lost.{Lost}

-- what is left of row j of the eight, where these residues of all are left at these columns
abbrev pub put_residue : ℕ → ℕ → List Entry → List Entry
put_residue c r entries = cond (nat_eq r 0) entries ((c, r) ∷ entries)

abbrev pub lane_left : ℕ → List (ℕ × List ℕ) → List Entry
lane_left j [] = []
lane_left j (e ∷ left) = put_residue e.0 (get_or e.1 j 0) (lane_left j left)

-- the rows that were added to row j, with its factors
abbrev pub lane_taken : ℕ → List (ℕ × List ℕ) → List Entry
lane_taken j taken = map (λ e. (e.0, get_or e.1 j 0)) taken

-- new is old and `factor` times the entries, which cancels the residue; nothing changes where this is 0
pub record IsAdded (p : ℕ) (entries : List Entry) (residue factor : ℕ) (old new : List ℕ) : Type 0 where
  pub adds : AddsMultiple p factor entries old new
  pub small : factor < p
  pub cancels : IsCongruent p (factor + residue) 0
  pub idle : residue ≡ 0 → (factor ≡ 0) × (new ≡ old)

-- row j of the eight, which lost its column, on its way before column c: first the row that has its column was added
pub record IsOnItsWay
    (p limit c columns : ℕ) (rows own : List RowShown) (pivots : List ℕ) (told : List Told)
    (left : List (ℕ × List ℕ)) (numbers : List (List ℕ)) (taken : List (ℕ × List ℕ)) (j : ℕ) (l : Lost) : Type 0 where
  pub under :
      IsRowUnderway p limit c columns (length (rows ++ own)) pivots (lane_left j left) (lane j numbers) ((l.winner, p - 1) ∷ lane_taken j taken)
  pub reduced :
      IsReducedSoFar p (lead_column rows l.number + 1) rows own told (shown_row_at rows l.number) (lane_left j left) (lane j numbers)
      ((l.winner, p - 1) ∷ lane_taken j taken)
  pub behind : (i : ℕ) → i ≤ lead_column rows l.number → get_or (lane j numbers) i 0 ≡ 0

-- these rows, from row j on
abbrev pub AreOnTheirWay :
    (p limit c columns : ℕ) → List RowShown → List RowShown → List ℕ → List Told
    → List (ℕ × List ℕ) → List (List ℕ) → List (ℕ × List ℕ) → ℕ → List Lost → Type 0
AreOnTheirWay p limit c columns rows own pivots told left numbers taken j [] = ⊤
AreOnTheirWay p limit c columns rows own pivots told left numbers taken j (l ∷ lost) =
    IsOnItsWay p limit c columns rows own pivots told left numbers taken j l
    × AreOnTheirWay p limit c columns rows own pivots told left numbers taken (j + 1) lost

-- this is left of the row, or it is gone
abbrev pub IsRowRestOrGone : (p columns inputs : ℕ) → List RowShown → List RowShown → List Told → RowShown → Option RowShown → Type 0
IsRowRestOrGone p columns inputs rows own told row None = IsGone p rows own told row
IsRowRestOrGone p columns inputs rows own told row (Some r) = IsRowLeft p columns inputs rows own told row r

-- of each of these rows this is left, or it is gone
abbrev pub AreRests : (p columns inputs : ℕ) → List RowShown → List RowShown → List Told → List Lost → List (Option RowShown) → Type 0
AreRests p columns inputs rows own told [] [] = ⊤
AreRests p columns inputs rows own told [] (r ∷ rests) = ⊥
AreRests p columns inputs rows own told (l ∷ lost) [] = ⊥
AreRests p columns inputs rows own told (l ∷ lost) (r ∷ rests) =
    IsRowRestOrGone p columns inputs rows own told (shown_row_at rows l.number) r × AreRests p columns inputs rows own told lost rests
