-- S-vectors and their representations (IVA chapter 2, section 9; UAG chapter 5, section 2)
use Rattle.std.specs.Prelude.{List, [], get_or, length, ℕ, ◌++◌, ◌-◌, ◌<◌, ◌≡◌}
use Rattle.std.specs.declared.cmp.Ordering.TheVariants.{Less}
use Rattle.monomials.specs.Exponents.{lcm, quotient}
use Rattle.formal_sums.specs.Combinations.{combination}
use Rattle.formal_sums.specs.FormalSums.{Each, FormalSum, IsSame, Key, Term, scale, shift}
use Rattle.bases.specs.Leads.{head_key, leads}
use Rattle.bases.specs.Settings.{Setting}

-- the place of a product c m g_i: the monomial m times the lead of g_i
abbrev pub place : {n : ℕ} → List (FormalSum n) → Term n → Key n
place G t = shift t.0.1 (leads G t.0.0)

-- the product is of a member of G, and its place is below k
abbrev pub IsLower : {n : ℕ} → Setting n → List (FormalSum n) → Key n → Term n → Type 0
IsLower S G k t = (t.0.0 < length G) × (S.compare (place G t) k ≡ Less)

-- v is a sum of products c m g of members, each with its place below k (IVA chapter 2, section 9)
pub record IsSumBelow {n : ℕ} (S : Setting n) (G : List (FormalSum n)) (k : Key n) (v : FormalSum n) : Type 0 where
  pub cofactors : FormalSum n
  pub below : Each (IsLower S G k) cofactors
  pub sums : IsSame S.modulus (combination G cofactors) v

-- the least common multiple of two keys at one position (UAG chapter 5, section 2)
abbrev pub key_lcm : {n : ℕ} → Key n → Key n → Key n
key_lcm k l = (k.0, lcm k.1 l.1)

-- the S-vector of two monic vectors modulo p (IVA chapter 2, section 6; UAG chapter 5, section 2)
abbrev pub s_vector : {n : ℕ} → ℕ → FormalSum n → FormalSum n → FormalSum n
s_vector p g h =
    scale 1 (quotient (lcm (head_key g).1 (head_key h).1) (head_key g).1) g
    ++ scale (p - 1) (quotient (lcm (head_key g).1 (head_key h).1) (head_key h).1) h

-- the S-vector of members i and j is a sum of products below their leads' lcm (IVA chapter 2, section 9)
abbrev pub HasLcmRepresentation : {n : ℕ} → Setting n → List (FormalSum n) → ℕ → ℕ → Type 0
HasLcmRepresentation S G i j =
    IsSumBelow S G (key_lcm (leads G i) (leads G j)) (s_vector S.modulus (get_or G i []) (get_or G j []))

-- each pair of members with leads at one position has such a representation
abbrev pub HasLcmRepresentations : {n : ℕ} → Setting n → List (FormalSum n) → Type 0
HasLcmRepresentations S G =
    (i j : ℕ) → i < length G → j < length G → (leads G i).0 ≡ (leads G j).0 → HasLcmRepresentation S G i j
