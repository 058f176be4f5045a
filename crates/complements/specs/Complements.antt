-- Vectors plus combinations of columns
use Rattle.std.specs.Prelude.{List, [], get_or, length, ℕ, ◌++◌, ◌<◌, ◌≡◌}
use Rattle.formal_sums.specs.Combinations.{combination}
use Rattle.formal_sums.specs.FormalSums.{FormalSum}
use Rattle.term_lists.specs.Rings.{ring_comparison, variables}
use Rattle.term_lists.specs.Vectors.{AreVectorsOver, StandsFor, sum_of, sums_of}
use Rattle.term_lists.specs.declared.key.Key.{Key as CodeKey}
use Rattle.term_lists.specs.declared.ring.Ring.{Ring}

-- new is old plus a combination of the columns
pub record IsComplement (ring : Ring) (columns : List (List (CodeKey × ℕ))) (old new : List (CodeKey × ℕ)) : Type 0 where
  pub factors : FormalSum (variables ring)
  pub sum :
      let n = variables ring in
      StandsFor ring new (sum_of n old ++ combination (sums_of n columns) factors)

-- so many of these vectors, one by one so
pub record AreComplements (ring : Ring) (columns old : List (List (CodeKey × ℕ))) (count : ℕ) (new : List (List (CodeKey × ℕ))) : Type 0 where
  pub sized : length new ≡ count
  pub each : (i : ℕ) → i < count → IsComplement ring columns (get_or old i []) (get_or new i [])
  pub vectors : AreVectorsOver ring (ring_comparison ring) new
