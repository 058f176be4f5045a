-- A basis in another order, with its standard monomials (Faugère, Gianni, Lazard, Mora 1993)
use Rattle.std.specs.Prelude.{List, [], get_or, length, ℕ, ◌<◌, ◌≡◌, ◌⊎◌}
use Rattle.residues.specs.Residues.{IsCongruent}
use Rattle.monomials.specs.Exponents.{Exponents, times, unit}
use Rattle.formal_sums.specs.Combinations.{IsMember}
use Rattle.formal_sums.specs.FormalSums.{FormalSum, Key, coefficient}
use Rattle.orders.specs.KeyOrders.{KeyDivides}
use Rattle.bases.specs.Bases.{IsCovered}
use Rattle.bases.specs.Leads.{IsMonicLead, IsNormal, leads}
use Rattle.bases.specs.Settings.{Setting}
use Rattle.change_laws.specs.Combinations.{AreIndependent}
use Rattle.change_laws.specs.Standard.{AreDistinct, Has, power}

-- G are members of the ideal of F, each a lead and monomials of N, which are independent modulo F; 1 and each multiple of one of N by
-- a variable is one of N or has a lead of G for a divisor, and not both
pub record IsChange {n : ℕ} (S : Setting n) (F : List (FormalSum n)) (N : List (Exponents n)) (G : List (FormalSum n)) : Type 0 where
  pub members : (i : ℕ) → i < length G → IsMember S.modulus F (get_or G i [])
  pub normal : (i : ℕ) → i < length G → IsNormal S (get_or G i [])
  pub monic : (i : ℕ) → i < length G → IsMonicLead S (get_or G i []) (leads G i)
  pub positions : (i : ℕ) → i < length G → (leads G i).0 ≡ 0
  pub distinct : AreDistinct N
  pub independent : AreIndependent S.modulus F N
  pub first : Has N (unit n) ⊎ IsCovered S G (0, unit n)
  pub closed :
      (k i : ℕ)
      → k < length N → i < n
      → Has N (times (power n i 1) (get_or N k (unit n))) ⊎ IsCovered S G (0, times (power n i 1) (get_or N k (unit n)))
  pub uncovered : (m : Exponents n) → Has N m → IsCovered S G (0, m) → ⊥
  pub tails :
      (i : ℕ) (k : Key n)
      → i < length G → (IsCongruent S.modulus (coefficient (get_or G i []) k) 0 → ⊥)
      → (k ≡ leads G i) ⊎ ((k.0 ≡ 0) × Has N k.1)
  pub apart : (i j : ℕ) → i < length G → j < length G → (i ≡ j → ⊥) → KeyDivides (leads G j) (leads G i) → ⊥
