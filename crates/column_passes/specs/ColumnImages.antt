-- Columns that are images of others
use Rattle.std.specs.Prelude.{List, map, ℕ}
use Rattle.formal_sums.specs.FormalSums.{FormalSum}
use Rattle.minimal_laws.specs.Cancellation.{AreSameColumns}
use Rattle.term_lists.specs.Rings.{ring_comparison, variables}
use Rattle.term_lists.specs.Vectors.{AreVectorsOver, sums_of}
use Rattle.term_lists.specs.declared.key.Key.{Key as CodeKey}
use Rattle.term_lists.specs.declared.ring.Ring.{Ring}

-- the columns are one by one the images of the others, in the ring's own order
pub record AreColumnImages (ring : Ring) (f : FormalSum (variables ring) → FormalSum (variables ring)) (old new : List (List (CodeKey × ℕ))) : Type 0 where
  pub same : AreSameColumns ring.modulus.value (map f (sums_of (variables ring) old)) (sums_of (variables ring) new)
  pub vectors : AreVectorsOver ring (ring_comparison ring) new
