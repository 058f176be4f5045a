-- The generators of a run: vectors of its ring and its rank
use Rattle.std.specs.Prelude.{List, ℕ}
use Rattle.formal_sums.specs.FormalSums.{Each}
use Rattle.term_lists.specs.Rings.{ring_comparison}
use Rattle.term_lists.specs.Vectors.{HasPositions, IsVectorOver}
use Rattle.term_lists.specs.declared.key.Key.{Key as CodeKey}
use Rattle.term_lists.specs.declared.ring.Ring.{Ring}

-- a vector in the ring's own order
abbrev pub IsVectorOf : Ring → List (CodeKey × ℕ) → Type 0
IsVectorOf ring v = IsVectorOver ring (ring_comparison ring) v

-- a vector of the ring and of the rank
pub record IsRanked (ring : Ring) (rank : ℕ) (v : List (CodeKey × ℕ)) : Type 0 where
  pub vector : IsVectorOf ring v
  pub positions : HasPositions rank v

-- the generators are vectors of the ring and of the rank
abbrev pub AreGenerators : Ring → ℕ → List (List (CodeKey × ℕ)) → Type 0
AreGenerators ring rank generators = Each (λ v. IsRanked ring rank v) generators
