-- Maps while constants leave, with the degrees of their columns, since a column can become zero
use Rattle.std.specs.Prelude.{List, [], map, ℕ, ⊤, ◌∷◌, ◌≡◌}
use Rattle.formal_sums.specs.FormalSums.{Each}
use Rattle.minimal_laws.specs.Cancellation.{IsCancelled}
use Rattle.minimal_laws.specs.Gradings.{GradedMap, GradedMaps}
use Rattle.term_lists.specs.Rings.{ring_comparison, variables}
use Rattle.term_lists.specs.Vectors.{AreVectorsOver, sums_of}
use Rattle.term_lists.specs.declared.key.Key.{Key as CodeKey}
use Rattle.term_lists.specs.declared.ring.Ring.{Ring}
use Rattle.resolution_maps.specs.Resolved.{degrees_of}
use Rattle.resolution_maps.specs.declared.maps.Map.{Map}
use Rattle.column_passes.specs.ColumnImages.{AreColumnImages}
use Rattle.minimal_betti.specs.Minimising.{IsCancellationReached}
use Rattle.minimal_betti.specs.declared.carried.Carried.{Carried}

-- the map as the laws take it
abbrev pub graded_map : (n : ℕ) → Carried → GradedMap n
graded_map n m = record { columns = sums_of n m.columns; degrees = m.degrees.items }

-- the positions and the maps
abbrev pub graded_maps : (ring : Ring) → List ℕ → List Carried → GradedMaps (variables ring)
graded_maps ring rows ms = record { positions = rows; maps = map (graded_map (variables ring)) ms }

-- each column is a vector in the ring's own order
abbrev pub AreOrdered : Ring → List Carried → Type 0
AreOrdered ring ms = Each (λ m. AreVectorsOver ring (ring_comparison ring) m.columns) ms

-- each cancellation of E is one of C, and what one of E comes to, one of C does
pub record LeadsTo {n : ℕ} (p : ℕ) (C E : GradedMaps n) : Type 0 where
  pub cancelled : (D : GradedMaps n) → IsCancelled p E D → IsCancelled p C D
  pub reached : (maps : GradedMaps n) → IsCancellationReached p E maps → IsCancellationReached p C maps

-- the columns are one by one the same vectors, in the ring's own order
abbrev pub AreOwn : Ring → List (List (CodeKey × ℕ)) → List (List (CodeKey × ℕ)) → Type 0
AreOwn ring = AreColumnImages ring (λ v. v)

-- the maps of a resolution, each in the ring's own order and with the degrees of its leads
abbrev pub AreCarried : Ring → List Map → List Carried → Type 0
AreCarried ring [] [] = ⊤
AreCarried ring [] (c ∷ cs) = ⊥
AreCarried ring (m ∷ maps) [] = ⊥
AreCarried ring (m ∷ maps) (c ∷ cs) =
    AreOwn ring m.columns c.columns × (c.degrees.items ≡ degrees_of ring m.row_degrees.items m.columns) × AreCarried ring maps cs
