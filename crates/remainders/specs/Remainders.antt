-- What a division of a vector by a list leaves
use Rattle.std.specs.Prelude.{List, length, ℕ, ◌++◌}
use Rattle.formal_sums.specs.Combinations.{combination}
use Rattle.formal_sums.specs.FormalSums.{FormalSum, HasRank}
use Rattle.term_lists.specs.Rings.{variables}
use Rattle.term_lists.specs.Vectors.{StandsFor, sum_of, sums_of}
use Rattle.term_lists.specs.declared.key.Key.{Key as CodeKey}
use Rattle.term_lists.specs.declared.ring.Ring.{Ring}
use Rattle.vector_division.specs.Divisions.{IsFreeOfLeads}

-- u is a combination of the list and the rest, and no lead of the list divides a key of that (IVA chapter 2, section 3)
pub record IsRemainderOf (ring : Ring) (list : List (List (CodeKey × ℕ))) (u rest : List (CodeKey × ℕ)) : Type 0 where
  pub cofactors : FormalSum (variables ring)
  pub ranks : HasRank (length list) cofactors
  pub sum : StandsFor ring u (combination (sums_of (variables ring) list) cofactors ++ sum_of (variables ring) rest)
  pub free : IsFreeOfLeads (sums_of (variables ring) list) (sum_of (variables ring) rest)
