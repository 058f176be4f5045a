-- Lists whose terms stand in another order
use Rattle.std.specs.Prelude.{List, [], get_or, length, ℕ, ◌≡◌}
use Rattle.formal_sums.specs.FormalSums.{IsSame}
use Rattle.term_lists.specs.Rings.{variables}
use Rattle.term_lists.specs.Vectors.{sum_of}
use Rattle.term_lists.specs.declared.key.Key.{Key as CodeKey}
use Rattle.term_lists.specs.declared.ring.Ring.{Ring}

-- as many vectors, each the same one as that with its index
pub record AreResorted (ring : Ring) (list resorted : List (List (CodeKey × ℕ))) : Type 0 where
  pub long : length resorted ≡ length list
  pub each : (i : ℕ) → let n = variables ring in IsSame ring.modulus.value (sum_of n (get_or resorted i [])) (sum_of n (get_or list i []))
