-- The rows of a job of pairs, and the new rows of their echelon form (Faugère 1999, section 2)
use Rattle.std.specs.Prelude.{List, [], get_or, length, ℕ, ◌<◌, ◌≡◌, ◌⊎◌}
use Rattle.residues.specs.Residues.{IsCongruent}
use Rattle.monomials.specs.Exponents.{Exponents, lcm, quotient}
use Rattle.formal_sums.specs.FormalSums.{FormalSum, IsSame, Key, coefficient, scale, shift}
use Rattle.bases.specs.Bases.{IsCovered}
use Rattle.bases.specs.Leads.{head_key, leads}
use Rattle.bases.specs.Settings.{Setting}
use Rattle.row_laws.specs.Rows.{ContainsLead, HasSameSpan, IsEchelon}

-- E is an echelon form of the rows M: in echelon form, with the same span (Faugère 1999, section 2)
pub record IsEchelonForm {n : ℕ} (S : Setting n) (M E : List (FormalSum n)) : Type 0 where
  pub echelon : IsEchelon S E
  pub span : HasSameSpan S.modulus M E

-- the row is a monomial times a member of G, and its first key that monomial times the member's lead
pub record IsProductRow {n : ℕ} (p : ℕ) (G : List (FormalSum n)) (row : FormalSum n) : Type 0 where
  pub member : ℕ
  pub within : member < length G
  pub multiplier : Exponents n
  pub same : IsSame p (scale 1 multiplier (get_or G member [])) row
  pub lead : shift multiplier (leads G member) ≡ head_key row

-- each row is such a product
abbrev pub AreProductRows : {n : ℕ} → ℕ → List (FormalSum n) → List (FormalSum n) → Type 0
AreProductRows p G M = (i : ℕ) → i < length M → IsProductRow p G (get_or M i [])

-- among the rows are both products of the S-vector of members i and j
pub record HasPairRows {n : ℕ} (p : ℕ) (G M : List (FormalSum n)) (i j : ℕ) : Type 0 where
  pub first : (r : ℕ) × (r < length M) × IsSame p (get_or M r []) (scale 1 (quotient (lcm (leads G i).1 (leads G j).1) (leads G i).1) (get_or G i []))
  pub second : (r : ℕ) × (r < length M) × IsSame p (get_or M r []) (scale 1 (quotient (lcm (leads G i).1 (leads G j).1) (leads G j).1) (get_or G j []))

-- each key of a row that a lead of G divides is the lead of a row: the rows have their reducers (Faugère 1999, section 2)
abbrev pub HasReducers : {n : ℕ} → Setting n → List (FormalSum n) → List (FormalSum n) → Type 0
HasReducers {n} S G M =
    (i : ℕ) (k : Key n)
    → i < length M → (IsCongruent S.modulus (coefficient (get_or M i []) k) 0 → ⊥) → IsCovered S G k → ContainsLead M k

-- N has the rows of E whose lead is the lead of no row of M, in any order
pub record IsNewRows {n : ℕ} (M E N : List (FormalSum n)) : Type 0 where
  pub rows : (i : ℕ) → i < length N → (j : ℕ) × (j < length E) × (get_or E j [] ≡ get_or N i [])
  pub new : (i : ℕ) → i < length N → ContainsLead M (leads N i) → ⊥
  pub all : (j : ℕ) → j < length E → ContainsLead M (leads E j) ⊎ ((i : ℕ) × (i < length N) × (get_or N i [] ≡ get_or E j []))
