-- Bounds on the degrees of monomials, by weights
use Rattle.std.specs.Prelude.{List, ℕ, ◌<◌, ◌≤◌}
use Rattle.residues.specs.Residues.{IsCongruent}
use Rattle.monomials.specs.Weights.{weighted_degree}
use Rattle.formal_sums.specs.FormalSums.{Each, FormalSum, Key, coefficient}
use Rattle.term_lists.specs.declared.key.Key.{Key as CodeKey}

-- the monomials have degrees of at most d
abbrev pub IsWithinDegree : ℕ → List (CodeKey × ℕ) → Type 0
IsWithinDegree d terms = Each (λ t. t.0.monomial.degree ≤ d) terms

-- v has degree at most d by the weights, modulo p: its coefficients above are 0 (IVA chapter 1, section 1)
pub record HasDegreeWithin {n : ℕ} (ws : List ℕ) (p d : ℕ) (v : FormalSum n) : Type 0 where
  pub above : (k : Key n) → d < weighted_degree ws k.1 → IsCongruent p (coefficient v k) 0
