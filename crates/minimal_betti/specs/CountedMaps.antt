-- A map whose rows are counted when its constants have left
use Rattle.std.specs.Prelude.{List, map, ℕ, ◌+◌, ◌≡◌}
use Rattle.betti_laws.specs.Tables.{occurrences}
use Rattle.term_lists.specs.Rings.{variables}
use Rattle.term_lists.specs.Vectors.{sums_of}
use Rattle.term_lists.specs.declared.ring.Ring.{Ring}
use Rattle.resolution_maps.specs.Resolved.{degrees_of}
use Rattle.resolution_maps.specs.declared.maps.Map.{Map}
use Rattle.column_passes.specs.Placing.{all_removed}
use Rattle.constant_passes.specs.Choosing.{IsChosen, columns_without_rows}
use Rattle.constant_passes.specs.declared.leaving.Chosen.{Chosen}
use Rattle.minimal_betti.specs.Growing.{IsTableTo}
use Rattle.minimal_betti.specs.declared.tables.BettiEntry.{BettiEntry}

-- the steps on the map without these rows are known: the rows of these degrees that stay are counted at this step, and the degrees of
-- the columns that stay are left
pub record IsMapCounted (ring : Ring) (rows : List ℕ) (m : Map) (step : ℕ) (former : List ℕ) (chosen : Chosen) (old new : List BettiEntry)
    (left : List ℕ) : Type 0 where
  pub choice : IsChosen ring (columns_without_rows rows (sums_of (variables ring) m.columns)) chosen
  pub counted : (counts : ℕ → ℕ → ℕ) → ((d : ℕ) → counts step d ≡ occurrences d (all_removed (map (λ s. s.row) choice.pivots) former))
      → IsTableTo counts old step 0 → IsTableTo counts new (step + 1) 0
  pub degrees : left ≡ all_removed (map (λ s. s.index) choice.pivots) (degrees_of ring m.row_degrees.items m.columns)
