-- One more variable at the end (IVA chapter 8, section 4)
use Rattle.std.specs.Prelude.{List, [], get_or, length, suc, ℕ, ◌++◌, ◌∷◌, ◌≡◌}
use Rattle.formal_sums.specs.FormalSums.{Each, IsSame}
use Rattle.term_lists.specs.Rings.{variables}
use Rattle.term_lists.specs.Vectors.{sum_of}
use Rattle.term_lists.specs.declared.key.Key.{Key as CodeKey}
use Rattle.term_lists.specs.declared.ring.Ring.{Ring}
use Rattle.homogeneous_laws.specs.Homogeneous.{dehomogenised}

-- the ring `more` is `ring` with one more variable at the end, of weight 1, by the same orders
pub record IsWithLast (ring more : Ring) : Type 0 where
  pub modulus : more.modulus ≡ ring.modulus
  pub order : more.order ≡ ring.order
  pub module_order : more.module_order ≡ ring.module_order
  pub weights : more.weights ≡ ring.weights ++ 1 ∷ []
  pub count : variables more ≡ suc (variables ring)

-- all terms have one degree
pub record HasOneDegree (terms : List (CodeKey × ℕ)) : Type 0 where
  pub degree : ℕ
  pub each : Each (λ t. t.0.monomial.degree ≡ degree) terms

-- with 1 for the last variable, `raised` is v
abbrev pub IsAtOne : Ring → (raised v : List (CodeKey × ℕ)) → Type 0
IsAtOne ring raised v =
    let n = variables ring in IsSame ring.modulus.value (dehomogenised (sum_of (suc n) raised)) (sum_of n v)

-- the same of lists
pub record AreAtOne (ring : Ring) (raised list : List (List (CodeKey × ℕ))) : Type 0 where
  pub long : length raised ≡ length list
  pub each : (i : ℕ) → IsAtOne ring (get_or raised i []) (get_or list i [])
