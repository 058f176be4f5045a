-- Columns after the steps on their map, each computed at once
use Rattle.std.specs.Prelude.{List, None, [], get_or, length, map, ℕ, ◌<◌, ◌≡◌}
use Rattle.formal_sums.specs.FormalSums.{Each}
use Rattle.minimal_laws.specs.Cancellation.{AreSameColumns, AreSameMaps}
use Rattle.minimal_laws.specs.Gradings.{GradedMap, GradedMaps}
use Rattle.term_lists.specs.Rings.{ring_comparison, variables}
use Rattle.term_lists.specs.Vectors.{AreVectorsOver, sums_of}
use Rattle.term_lists.specs.declared.key.Key.{Key as CodeKey}
use Rattle.term_lists.specs.declared.ring.Ring.{Ring}
use Rattle.column_passes.specs.Passing.{Pivot, left_by_all}
use Rattle.column_passes.specs.Placing.{AreWithout, all_removed, place_after}
use Rattle.minimal_betti.specs.Carried.{LeadsTo, graded_map}
use Rattle.minimal_betti.specs.Splitting.{IsCancellationUnderway}
use Rattle.minimal_betti.specs.declared.carried.Carried.{Carried}

-- each of these is one of the columns that leave
abbrev pub AreGone : List ℕ → List (List (CodeKey × ℕ)) → List (List (CodeKey × ℕ)) → Type 0
AreGone indices columns gone = Each (λ w. (i : ℕ) × (i < length columns) × (place_after indices i ≡ None) × (get_or columns i [] ≡ w)) gone

-- no term stands in a row that leaves
abbrev pub IsApart : List ℕ → List (CodeKey × ℕ) → Type 0
IsApart rows v = Each (λ t. place_after rows t.0.position ≡ None → ⊥) v

-- what the steps leave of the columns, without these
pub record AreComplemented (ring : Ring) (pivots : List (Pivot (variables ring))) (out : List ℕ) (old new : List (List (CodeKey × ℕ))) : Type 0 where
  pub same :
      let n = variables ring in
      AreSameColumns ring.modulus.value (all_removed out (left_by_all ring pivots (sums_of n old))) (sums_of n new)
  pub vectors : AreVectorsOver ring (ring_comparison ring) new

-- the same of the map, with its degrees
pub record IsComplemented (ring : Ring) (pivots : List (Pivot (variables ring))) (out : List ℕ) (old new : Carried) : Type 0 where
  pub columns : AreComplemented ring pivots out old.columns new.columns
  pub degrees : new.degrees.items ≡ all_removed out (all_removed (map (λ s. s.index) pivots) old.degrees.items)

-- the map without rows, with its degrees
abbrev pub IsMapLowered : Ring → List ℕ → Carried → Carried → Type 0
IsMapLowered ring rows m m' = AreWithout ring rows m.columns m'.columns × (m'.degrees ≡ m.degrees)

-- the maps that C comes to are these, up to the form of the vectors, and have no constant
pub record ComesTo (ring : Ring) (C : GradedMaps (variables ring)) (rows : List ℕ) (left : List Carried) : Type 0 where
  pub maps : List (GradedMap (variables ring))
  pub leads : LeadsTo ring.modulus.value C (record { positions = rows; maps = maps })
  pub same : AreSameMaps ring.modulus.value maps (map (graded_map (variables ring)) left)
  pub underway : IsCancellationUnderway ring rows left left
