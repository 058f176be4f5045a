-- What a resolution is in the code, and why there is none
use Rattle.std.specs.Prelude.{List, [], length, map, ℕ, ⊤, ◌++◌, ◌∷◌, ◌≡◌}
use Rattle.formal_sums.specs.FormalSums.{Each, FormalSum}
use Rattle.bases.specs.Settings.{Setting}
use Rattle.resolution_laws.specs.Resolutions.{IsCanonicalStart}
use Rattle.minimal_laws.specs.Gradings.{lead_degrees}
use Rattle.term_lists.specs.Rings.{ring_comparison, setting, variables}
use Rattle.term_lists.specs.Vectors.{AreVectorsOver, HasPositions, sums_of}
use Rattle.term_lists.specs.declared.key.Key.{Key as CodeKey}
use Rattle.term_lists.specs.declared.ring.Ring.{Ring}
use Rattle.module_vectors.specs.Trails.{IsTrail}
use Rattle.module_vectors.specs.declared.trail.KeptTrail.{KeptTrail}
use Rattle.module_vectors.specs.declared.trail.TrailStart.TheVariants.{Pair}
use Rattle.module_vectors.specs.declared.trail.WorkStop.{WorkStop}
use Rattle.module_vectors.specs.declared.trail.WorkStop.TheVariants.{Degree, Memory}
use Rattle.resolution_maps.specs.Inducing.{Columns, maps_of, over, tower_comparison}
use Rattle.resolution_maps.specs.declared.maps.Map.{Map}
use Rattle.resolution_maps.specs.declared.maps.Resolution.{Resolution}

-- the columns of a resolution's maps, the first map first
abbrev pub columns_of : Resolution → Columns
columns_of r = map (λ m. m.columns) r.maps.items

-- the degrees of a map's columns, each that of its lead: the degree of its row and that of its monomial, by the ring's weights
abbrev pub degrees_of : Ring → List ℕ → List (List (CodeKey × ℕ)) → List ℕ
degrees_of ring rows columns = lead_degrees ring.weights rows (sums_of (variables ring) columns)

-- the rows have these degrees, there are as many, and each column stands at them
pub record HasRows (rows : List ℕ) (m : Map) : Type 0 where
  pub degrees : m.row_degrees.items ≡ rows
  pub count : m.rows ≡ length rows
  pub positions : Each (HasPositions (length rows)) m.columns

-- the rows of each map are the columns of the one before, with the degrees of their leads; those of the first have the degrees given
abbrev pub AreJoined : Ring → List ℕ → List Map → Type 0
AreJoined ring rows [] = ⊤
AreJoined ring rows (m ∷ maps) = HasRows rows m × AreJoined ring (degrees_of ring rows m.columns) maps

-- each map's columns have the positions of the columns before, those of the first one the positions below the rank
abbrev pub HavePositions : ℕ → Columns → Type 0
HavePositions rank [] = Unit {0}
HavePositions rank (F ∷ maps) = Each (HasPositions rank) F × HavePositions (length F) maps

-- each map's columns are vectors in the order that the maps before it, from those below on, induce over the ring's own
abbrev pub AreVectorsThrough : Ring → Columns → Columns → Type 0
AreVectorsThrough ring below [] = ⊤
AreVectorsThrough ring below (F ∷ maps) = AreVectorsOver ring (tower_comparison (over ring below)) F × AreVectorsThrough ring (below ++ F ∷ []) maps

-- the maps are the first ones of the canonical resolution of the module of A
abbrev pub AreFirstMaps : {n : ℕ} → Setting n → List (FormalSum n) → List (List (FormalSum n)) → Type 0
AreFirstMaps S A maps = IsCanonicalStart S A (length maps) maps

-- the trail is over this ring and of no run; it begins with a pair of its members, and these and the maps below them are the
-- first maps of the canonical resolution
pub record IsResolutionTrail (ring : Ring) (rank : ℕ) (reduced : List (List (CodeKey × ℕ))) (t : KeptTrail) : Type 0 where
  pub trail : IsTrail t
  pub over : t.ring ≡ ring
  pub rank_none : t.rank ≡ 0
  pub generators : t.generators ≡ []
  pub start : (i : ℕ) × (j : ℕ) × (t.start ≡ Pair i j)
  pub first :
      let n = variables ring in
      AreFirstMaps (setting ring n (ring_comparison ring n) rank) (sums_of n reduced) (maps_of n (t.below.items ++ t.members ∷ []))

-- Degree comes with such a trail alone
abbrev pub ResolutionStops : Ring → ℕ → List (List (CodeKey × ℕ)) → WorkStop → Type 0
ResolutionStops ring rank reduced Memory = ⊤
ResolutionStops ring rank reduced (Degree t) = IsResolutionTrail ring rank reduced t
