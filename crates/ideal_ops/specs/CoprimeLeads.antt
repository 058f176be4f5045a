-- A vector whose lead has no variable in common with the leads of a list
use Rattle.std.specs.Prelude.{List, [], ℕ, ◌≡◌}
use Rattle.monomials.specs.Exponents.{lcm, times}
use Rattle.formal_sums.specs.FormalSums.{Each, FormalSum}
use Rattle.bases.specs.Leads.{head_key}

-- b is not 0, and the product of its lead and that of each member is their least common multiple
pub record HasCoprimeLead {n : ℕ} (b : FormalSum n) (G : List (FormalSum n)) : Type 0 where
  pub nonzero : b ≡ [] → ⊥
  pub coprime : Each (λ g. times (head_key g).1 (head_key b).1 ≡ lcm (head_key g).1 (head_key b).1) G
