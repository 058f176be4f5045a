-- Rows with leads of their own
use Rattle.std.specs.Prelude.{List, get_or, length, ℕ, ◌*◌, ◌+◌, ◌<◌, ◌≡◌, ◌≤◌}
use Rattle.formal_sums.specs.FormalSums.{Each, FormalSum}
use Rattle.bases.specs.Leads.{leads}
use Rattle.row_matrix.specs.Rows.{RowShown}
use Rattle.symbolic_prep.specs.Plans.{lead_number}

-- the rows are fewer than those of some that have leads of their own, and twice the pairs
pub record HasFewRows {n : ℕ} (M : List (FormalSum n)) (pairs : ℕ) : Type 0 where
  pub chosen : List ℕ
  pub within : Each (λ i. i < length M) chosen
  pub distinct : (j k : ℕ) → j < k → k < length chosen → leads M (get_or chosen j 0) ≡ leads M (get_or chosen k 0) → ⊥
  pub few : length M < length chosen + 2 * pairs

-- the chosen rows have leads of their own, and there are no more than so many others
pub record IsSparse (rows : List RowShown) (chosen : List ℕ) (others : ℕ) : Type 0 where
  pub within : Each (λ i. i < length rows) chosen
  pub distinct :
      (j k : ℕ)
      → j < k → k < length chosen → lead_number rows (get_or chosen j 0) ≡ lead_number rows (get_or chosen k 0) → ⊥
  pub few : length rows ≤ length chosen + others
