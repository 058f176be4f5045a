-- A resolution in the code as the laws on graded maps take it
use Rattle.std.specs.Prelude.{}
use Rattle.formal_sums.specs.FormalSums.{Each}
use Rattle.minimal_laws.specs.Gradings.{AreExact, AreGraded, GradedMaps, graded_by_leads}
use Rattle.term_lists.specs.Rings.{ring_comparison, variables}
use Rattle.term_lists.specs.Vectors.{AreTermsOver, AreVectorsOver}
use Rattle.term_lists.specs.declared.ring.Ring.{Ring}
use Rattle.resolution_maps.specs.Inducing.{maps_of}
use Rattle.resolution_maps.specs.Resolved.{AreJoined, columns_of}
use Rattle.resolution_maps.specs.declared.maps.Resolution.{Resolution}

-- the positions and the maps, each column with the degree of its lead
abbrev pub graded_of : (ring : Ring) → Resolution → GradedMaps (variables ring)
graded_of ring r = record {
  positions = r.positions.items;
  maps = graded_by_leads ring.weights r.positions.items (maps_of (variables ring) (columns_of r));
}

-- the columns of all maps are vectors in the ring's own order
abbrev pub AreMapsOver : Ring → Resolution → Type 0
AreMapsOver ring r = Each (λ F. AreVectorsOver ring (ring_comparison ring) F) (columns_of r)

-- a resolution that is graded by the ring's weights: its columns have terms of the ring, in whatever order, its rows are the
-- columns before, and the maps are homogeneous and exact
pub record IsGradedResolution (ring : Ring) (r : Resolution) : Type 0 where
  pub terms : Each (λ F. Each (AreTermsOver ring) F) (columns_of r)
  pub joined : AreJoined ring r.positions.items r.maps.items
  pub graded : AreGraded ring.weights ring.modulus.value (graded_of ring r).positions (graded_of ring r).maps
  pub exact : AreExact ring.modulus.value (graded_of ring r).maps
