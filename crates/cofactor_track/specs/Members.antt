-- Vectors with their cofactors over shared generators
use Rattle.std.specs.Prelude.{List, length, ℕ}
use Rattle.formal_sums.specs.Combinations.{combination}
use Rattle.term_lists.specs.Rings.{variables}
use Rattle.term_lists.specs.Vectors.{StandsFor, sum_of, sums_of}
use Rattle.term_lists.specs.declared.key.Key.{Key as CodeKey}
use Rattle.term_lists.specs.declared.ring.Ring.{Ring}
use Rattle.member_products.specs.Generators.{IsRanked}

-- v is a vector of the rank, a has cofactors for the generators, and v is the combination of the generators by them
pub record IsCombined (ring : Ring) (rank : ℕ) (generators : List (List (CodeKey × ℕ))) (v a : List (CodeKey × ℕ)) : Type 0 where
  pub vector : IsRanked ring rank v
  pub cof : IsRanked ring (length generators) a
  pub sums : StandsFor ring v (combination (sums_of (variables ring) generators) (sum_of (variables ring) a))
