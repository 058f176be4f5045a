-- Gröbner bases (IVA chapter 2, sections 5 to 7; UAG chapter 5, section 2)
use Rattle.std.specs.Prelude.{List, [], get_or, length, map, ℕ, ◌<◌, ◌∷◌, ◌≡◌}
use Rattle.std.specs.declared.cmp.Ordering.{Ordering}
use Rattle.std.specs.declared.cmp.Ordering.TheVariants.{Greater}
use Rattle.residues.specs.Residues.{IsCongruent}
use Rattle.formal_sums.specs.Combinations.{IsMember}
use Rattle.formal_sums.specs.FormalSums.{FormalSum, Key, coefficient}
use Rattle.orders.specs.KeyOrders.{KeyDivides}
use Rattle.bases.specs.Leads.{IsLead, IsMonicLead, IsNormal, leads}
use Rattle.bases.specs.Settings.{Setting}

-- some member of G begins with its lead, and this divides k: zero covers no key (IVA chapter 2, section 4)
abbrev pub IsCovered : {n : ℕ} → Setting n → List (FormalSum n) → Key n → Type 0
IsCovered S G k = (i : ℕ) × (i < length G) × IsLead S (get_or G i []) (leads G i) × KeyDivides (leads G i) k

-- no lead of G divides a term of v: its coefficient at each covered key is 0 (IVA chapter 2, section 3)
abbrev pub HasFreeTerms : {n : ℕ} → Setting n → List (FormalSum n) → FormalSum n → Type 0
HasFreeTerms {n} S G v = (k : Key n) → IsCovered S G k → IsCongruent S.modulus (coefficient v k) 0

-- the first key of g as a vector of one term; zero for zero
abbrev pub lead_vector : {n : ℕ} → FormalSum n → FormalSum n
lead_vector [] = []
lead_vector (t ∷ g) = (t.0, 1) ∷ []

-- the leads of the members of G, as vectors of one term: they generate the textbook's module of leading terms
abbrev pub lead_vectors : {n : ℕ} → List (FormalSum n) → List (FormalSum n)
lead_vectors G = map lead_vector G

-- G is a Gröbner basis of the module of F (IVA chapter 2, section 5; UAG chapter 5, section 2)
pub record IsGroebnerBasis {n : ℕ} (S : Setting n) (F G : List (FormalSum n)) : Type 0 where
  pub members : (i : ℕ) → i < length G → IsMember S.modulus F (get_or G i [])
  pub covers : (v : FormalSum n) (k : Key n) → IsMember S.modulus F v → IsLead S v k → IsCovered S G k

-- G is a reduced Gröbner basis of the module of F, in any order of its members (IVA chapter 2, section 7)
pub record IsReducedSet {n : ℕ} (S : Setting n) (F G : List (FormalSum n)) : Type 0 where
  pub basis : IsGroebnerBasis S F G
  pub normal : (i : ℕ) → i < length G → IsNormal S (get_or G i [])
  pub monic : (i : ℕ) → i < length G → IsMonicLead S (get_or G i []) (leads G i)
  -- no lead of another member divides a key of a member
  pub apart :
      (i j : ℕ) (k : Key n)
      → i < length G → j < length G → (i ≡ j → ⊥) → KeyDivides (leads G j) k
      → IsCongruent S.modulus (coefficient (get_or G i []) k) 0

-- G is a reduced Gröbner basis of the module of F, and its leads descend by the comparison `sort`
pub record IsReducedBy {n : ℕ} (sort : Key n → Key n → Ordering) (S : Setting n) (F G : List (FormalSum n)) : Type 0 where
  pub reduced : IsReducedSet S F G
  pub descends : (i j : ℕ) → i < j → j < length G → sort (leads G i) (leads G j) ≡ Greater

-- G is the reduced Gröbner basis of the module of F, by descending leads (IVA chapter 2, section 7)
abbrev pub IsReducedBasis : {n : ℕ} → Setting n → List (FormalSum n) → List (FormalSum n) → Type 0
IsReducedBasis S = IsReducedBy S.compare S
