-- The first maps of a resolution, and the next one
use Rattle.std.specs.Prelude.{List, [], length, ℕ, ◌++◌, ◌<◌, ◌∷◌, ◌≡◌}
use Rattle.formal_sums.specs.FormalSums.{Each}
use Rattle.syzygy_laws.specs.Syzygies.{induced_setting}
use Rattle.resolution_laws.specs.Resolutions.{IsCanonicalMap, IsExact}
use Rattle.term_lists.specs.Rings.{ring_comparison, setting, variables}
use Rattle.term_lists.specs.Vectors.{AreVectorsOver, HasPositions, sums_of}
use Rattle.term_lists.specs.declared.key.Key.{Key as CodeKey}
use Rattle.term_lists.specs.declared.ring.Ring.{Ring}
use Rattle.resolution_maps.specs.Inducing.{Columns, maps_of, over, tower_comparison}
use Rattle.resolution_maps.specs.Resolved.{AreFirstMaps, AreVectorsThrough, HavePositions}
use Rattle.induced_leads.specs.PairLeads.{IsBase}

-- the columns F of a map above others: vectors in the order that those induce, monic, and a Gröbner basis
pub record IsTopMap (ring : Ring) (below : Columns) (F : List (List (CodeKey × ℕ))) : Type 0 where
  pub vectors : AreVectorsOver ring (tower_comparison (over ring below)) F
  pub base : IsBase ring (tower_comparison (over ring below)) F

-- H are the columns of the next map: it has the kernel of the map with the columns F as its image, and is canonical where
-- it has a column
pub record IsNextMap (ring : Ring) (below : Columns) (F H : List (List (CodeKey × ℕ))) : Type 0 where
  pub top : IsTopMap ring (below ++ F ∷ []) H
  pub positions : Each (HasPositions (length F)) H
  pub exact : IsExact ring.modulus.value (sums_of (variables ring) F) (sums_of (variables ring) H)
  pub canonical :
      let n = variables ring in
      0 < length H → IsCanonicalMap (induced_setting (setting ring n (tower_comparison (over ring below) n) 0) (sums_of n F)) (sums_of n H) (sums_of n H)

-- the maps, one at least, are the first ones of the canonical resolution of the module of `reduced`, and the last one is a
-- top over the others
pub record AreResolvedTo (ring : Ring) (rank : ℕ) (reduced : List (List (CodeKey × ℕ))) (maps : Columns) : Type 0 where
  pub below : Columns
  pub last : List (List (CodeKey × ℕ))
  pub split : maps ≡ below ++ last ∷ []
  pub top : IsTopMap ring below last
  pub vectors : AreVectorsThrough ring [] maps
  pub positions : HavePositions rank maps
  pub first :
      let n = variables ring in
      AreFirstMaps (setting ring n (ring_comparison ring n) rank) (sums_of n reduced) (maps_of n maps)
