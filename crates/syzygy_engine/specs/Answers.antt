-- What an operation answers
use Rattle.std.specs.Prelude.{List, ℕ, ◌↔◌}
use Rattle.formal_sums.specs.Combinations.{IsMember}
use Rattle.formal_sums.specs.FormalSums.{FormalSum}
use Rattle.term_lists.specs.Rings.{variables}
use Rattle.term_lists.specs.Vectors.{sums_of}
use Rattle.term_lists.specs.declared.key.Key.{Key as CodeKey}
use Rattle.term_lists.specs.declared.ring.Ring.{Ring}
use Rattle.groebner_iface.specs.Runs.{IsReducedBasisOf}

-- the answer is a reduced Gröbner basis, and the members of its module are the vectors with the property
pub record IsBasisOfThose (ring : Ring) (rank : ℕ) (property : FormalSum (variables ring) → Type 0) (answer : List (List (CodeKey × ℕ))) : Type 0 where
  pub basis : IsReducedBasisOf ring rank answer answer
  pub members : (v : FormalSum (variables ring)) → IsMember ring.modulus.value (sums_of (variables ring) answer) v ↔ property v
