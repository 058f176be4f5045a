-- Vectors over a ring have its variables
use Rattle.std.proofs.Common.{List, [], ℕ, ◌∷◌}
use Rattle.formal_sums.proofs.Combining.{Each_map}
use Rattle.formal_sums.specs.FormalSums.{Each}
use Rattle.term_lists.specs.Rings.{ring_comparison, variables}
use Rattle.term_lists.specs.Vectors.{AreVectorsOver, HasVariables, IsVectorOver}
use Rattle.term_lists.specs.declared.key.Key.{Key}
use Rattle.term_lists.specs.declared.ring.Ring.{Ring}

-- a vector over a ring has its variables
pub of_variables : (ring : Ring) (v : List (Key × ℕ)) → IsVectorOver ring (ring_comparison ring) v → Each (HasVariables (variables ring)) v
of_variables ring v h = Each_map _ _ v (λ t x. x.weighed.variables) h.each

-- the same of a list of vectors
pub listed : (ring : Ring) (list : List (List (Key × ℕ))) → AreVectorsOver ring (ring_comparison ring) list
    → Each (λ v. Each (HasVariables (variables ring)) v) list
listed ring [] h = tt
listed ring (v ∷ list) h = (of_variables ring v h.0, listed ring list h.1)
