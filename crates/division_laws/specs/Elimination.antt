-- Elimination (IVA chapter 3, section 1; UAG chapter 5, section 3)
use Rattle.std.specs.Prelude.{Bool, IsTrue, List, length, nat_le, ℕ, ◌<◌, ◌≡◌}
use Rattle.std.specs.declared.cmp.Ordering.TheVariants.{Less}
use Rattle.monomials.specs.Exponents.{same_exponents, unit}
use Rattle.formal_sums.specs.Combinations.{combination}
use Rattle.formal_sums.specs.FormalSums.{Each, FormalSum, IsSame, Key}
use Rattle.orders.specs.MonomialOrders.{first_variables}
use Rattle.bases.specs.Leads.{leads}
use Rattle.bases.specs.Settings.{Setting}

-- the test keeps with a key each lower key
abbrev pub IsDownClosed : {n : ℕ} → Setting n → (Key n → Bool) → Type 0
IsDownClosed {n} S keep = (k l : Key n) → S.compare l k ≡ Less → IsTrue (keep k) → IsTrue (keep l)

-- v is a combination of the members of G whose leads are kept
pub record IsKeptCombination {n : ℕ} (S : Setting n) (G : List (FormalSum n)) (keep : Key n → Bool) (v : FormalSum n) : Type 0 where
  pub cofactors : FormalSum n
  pub kept : Each (λ t. (t.0.0 < length G) × IsTrue (keep (leads G t.0.0))) cofactors
  pub sums : IsSame S.modulus (combination G cofactors) v

-- the key has none of the first j variables
abbrev pub has_none_of_first : {n : ℕ} → ℕ → Key n → Bool
has_none_of_first {n} j k = same_exponents (first_variables j k.1) (unit n)

-- the key stands at position m or later
abbrev pub is_from_position : {n : ℕ} → ℕ → Key n → Bool
is_from_position m k = nat_le m k.0
