-- Lists of unit vectors
use Rattle.std.specs.Prelude.{List, ℕ, ◌≡◌}
use Rattle.term_lists.specs.Rings.{ring_comparison, variables}
use Rattle.term_lists.specs.Vectors.{AreVectorsOver, sums_of}
use Rattle.term_lists.specs.declared.key.Key.{Key as CodeKey}
use Rattle.term_lists.specs.declared.ring.Ring.{Ring}
use Rattle.ext_laws.specs.Transposes.{unit_vectors}

-- these are so many unit vectors, the first position first
pub record AreUnits (ring : Ring) (count : ℕ) (list : List (List (CodeKey × ℕ))) : Type 0 where
  pub vectors : AreVectorsOver ring (ring_comparison ring) list
  pub units : sums_of (variables ring) list ≡ unit_vectors count
