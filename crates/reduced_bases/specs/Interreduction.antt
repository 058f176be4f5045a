-- The steps from a Gröbner basis to the reduced one (IVA chapter 2, section 7)
use Rattle.std.specs.Prelude.{List, [], get_or, length, ℕ, ◌++◌, ◌-◌, ◌<◌, ◌≡◌}
use Rattle.residues.specs.Residues.{IsCongruent}
use Rattle.monomials.specs.Exponents.{unit}
use Rattle.formal_sums.specs.Combinations.{IsMember}
use Rattle.formal_sums.specs.FormalSums.{FormalSum, Key, coefficient, scale}
use Rattle.orders.specs.KeyOrders.{KeyDivides}
use Rattle.bases.specs.Bases.{IsCovered}
use Rattle.bases.specs.Leads.{IsLead, IsNormal, head_coefficient, leads}
use Rattle.bases.specs.Settings.{Setting}

-- each lead of G is divisible by a lead of H; zero has no lead
abbrev pub CoversLeads : {n : ℕ} → Setting n → List (FormalSum n) → List (FormalSum n) → Type 0
CoversLeads S H G = (i : ℕ) → i < length G → IsLead S (get_or G i []) (leads G i) → IsCovered S H (leads G i)

-- the members of G begin with their leads, and none divides another (IVA chapter 2, section 7: a minimal basis)
pub record IsMinimalList {n : ℕ} (S : Setting n) (G : List (FormalSum n)) : Type 0 where
  pub lead : (i : ℕ) → i < length G → IsLead S (get_or G i []) (leads G i)
  pub apart : (i j : ℕ) → i < length G → j < length G → (i ≡ j → ⊥) → KeyDivides (leads G j) (leads G i) → ⊥

-- no lead of G divides a term of v that does not stand at k: its coefficient at each covered key but k is 0
abbrev pub HasFreeTail : {n : ℕ} → Setting n → List (FormalSum n) → Key n → FormalSum n → Type 0
HasFreeTail {n} S G k v = (l : Key n) → IsCovered S G l → (l ≡ k → ⊥) → IsCongruent S.modulus (coefficient v l) 0

-- H is G with its tails reduced: each member keeps its lead, changes by a member of the module of F, is in normal form and monic, and no lead of G divides its other terms (IVA chapter 2, section 7)
pub record IsTailReduced {n : ℕ} (S : Setting n) (F G H : List (FormalSum n)) : Type 0 where
  pub lengths : length H ≡ length G
  pub leads_kept : (i : ℕ) → i < length G → leads H i ≡ leads G i
  pub differs : (i : ℕ) → i < length G → IsMember S.modulus F (get_or H i [] ++ scale (S.modulus - 1) (unit n) (get_or G i []))
  pub normal : (i : ℕ) → i < length G → IsNormal S (get_or H i [])
  pub monic : (i : ℕ) → i < length G → head_coefficient (get_or H i []) ≡ 1
  pub tails : (i : ℕ) → i < length G → HasFreeTail S G (leads G i) (get_or H i [])
