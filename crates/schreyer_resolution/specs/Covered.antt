-- Terms that leads of columns divide, put into lists
use Rattle.std.specs.Prelude.{List, [], ℕ, ◌++◌}
use Rattle.std.specs.declared.cmp.Ordering.{Ordering}
use Rattle.formal_sums.specs.FormalSums.{IsSame, Key}
use Rattle.term_lists.specs.Rings.{variables}
use Rattle.term_lists.specs.Vectors.{AreVectorsOver, sum_of}
use Rattle.term_lists.specs.declared.key.Key.{Key as CodeKey}
use Rattle.term_lists.specs.declared.ring.Ring.{Ring}
use Rattle.vector_division.specs.Runs.{AreBelow, IsOver, total}
use Rattle.induced_leads.specs.Sifting.{IsSifting}

-- the terms of v that leads of the columns divide were put into the lists
pub record AreCoveredPut (ring : Ring) (compare : (n : ℕ) → Key n → Key n → Ordering) (columns : List (List (CodeKey × ℕ))) (v : List (CodeKey × ℕ))
    (old new : List (List (CodeKey × ℕ))) : Type 0 where
  pub kept : List (CodeKey × ℕ)
  pub sifted : IsSifting ring compare columns v kept []
  pub runs : AreVectorsOver ring compare new
  pub sum :
      let n = variables ring in
      IsSame ring.modulus.value (total n new) (total n old ++ sum_of n kept)
  pub below :
      let n = variables ring in
      (k : Key n) → AreBelow n (compare n) k old → IsOver (compare n) k (sum_of n kept) → AreBelow n (compare n) k new
