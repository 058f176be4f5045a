-- Rows divided by members until none divides the lead, and the members that this makes (IVA chapter 2, sections 3 and 7)
use Rattle.std.specs.Prelude.{List, [], get_or, length, ℕ, ◌*◌, ◌++◌, ◌-◌, ◌<◌, ◌∷◌, ◌≡◌, ◌⊎◌}
use Rattle.std.specs.declared.cmp.Ordering.TheVariants.{Less}
use Rattle.residues.specs.Residues.{IsCongruent}
use Rattle.monomials.specs.Exponents.{unit}
use Rattle.formal_sums.specs.Combinations.{combination}
use Rattle.formal_sums.specs.FormalSums.{Each, FormalSum, HasRank, IsSame, Key, Term, coefficient, scale}
use Rattle.bases.specs.Bases.{IsCovered}
use Rattle.bases.specs.Leads.{IsMonicLead, head_key}
use Rattle.bases.specs.Meeting.{AreMetInTurn, IsMetBy}
use Rattle.bases.specs.Representations.{place}
use Rattle.bases.specs.Settings.{Setting}
use Rattle.basis_steps.specs.States.{Member}

-- the first key of v is its lead, with coefficient 1, and v has the setting's rank
pub record IsMonicMember {n : ℕ} (S : Setting n) (v : FormalSum n) : Type 0 where
  pub monic : IsMonicLead S v (head_key v)
  pub ranked : HasRank S.rank v

-- the one key is below the other or the same
abbrev pub IsKeyAtMost : {n : ℕ} → Setting n → Key n → Key n → Type 0
IsKeyAtMost S k l = (S.compare k l ≡ Less) ⊎ (k ≡ l)

-- the products of members of G by the quotients a stand at most at k (IVA chapter 2, section 3)
abbrev pub AreQuotients : {n : ℕ} → Setting n → List (FormalSum n) → Key n → FormalSum n → Type 0
AreQuotients S G k a = Each (λ t. (t.0.0 < length G) × IsKeyAtMost S (place G t) k) a

-- k is a monomial of v: its coefficient is not 0 modulo p
abbrev pub Occurs : {n : ℕ} → ℕ → FormalSum n → Key n → Type 0
Occurs p v k = IsCongruent p (coefficient v k) 0 → ⊥

-- k is a monomial of the product of a member of G by this quotient
abbrev pub OccursInProduct : {n : ℕ} → ℕ → List (FormalSum n) → Key n → Term n → Type 0
OccursInProduct p G k t = Occurs p (scale 1 t.0.1 (get_or G t.0.0 [])) k

-- k is a monomial of v, or of the product of a member of G by one of these quotients
abbrev pub IsMonomialReached : {n : ℕ} → ℕ → List (FormalSum n) → FormalSum n → FormalSum n → Key n → Type 0
IsMonomialReached p G v quotients k = IsMetBy (Occurs p v) (OccursInProduct p G) quotients k

-- the products by the quotients a can be taken away one after another: the lead of each is a monomial of v or of a product before it
abbrev pub AreReached : {n : ℕ} → ℕ → List (FormalSum n) → FormalSum n → FormalSum n → FormalSum n → Type 0
AreReached p G v before a = AreMetInTurn (Occurs p v) (OccursInProduct p G) (place G) before a

-- v - w modulo p
abbrev pub difference : {n : ℕ} → ℕ → FormalSum n → FormalSum n → FormalSum n
difference {n} p v w = v ++ scale (p - 1) (unit n) w

-- division of the row by the members G with the quotients a leaves c times g, and d times what is left is the monic g: no lead of G divides its lead; the products that make g are d times the row's less a (IVA chapter 2, section 3)
pub record LeavesMember {n : ℕ} (S : Setting n) (G : List (FormalSum n)) (row : Member n) (a : FormalSum n) (c d : ℕ) (g : Member n) : Type 0 where
  pub quotients : AreQuotients S G (head_key row.vector) a
  pub reached : AreReached S.modulus G row.vector [] a
  pub at_most : IsKeyAtMost S (head_key g.vector) (head_key row.vector)
  pub inverse : IsCongruent S.modulus (c * d) 1
  pub vector : IsSame S.modulus g.vector (scale d (unit n) (difference S.modulus row.vector (combination G a)))
  pub multiple : IsSame S.modulus g.multiple (scale d (unit n) row.multiple)
  pub products : IsSame S.modulus g.products (scale d (unit n) (difference S.modulus row.products a))
  pub member : IsMonicMember S g.vector
  pub free : IsCovered S G (head_key g.vector) → ⊥

-- division of the row by the members G with the quotients a leaves 0 (IVA chapter 2, section 3)
pub record LeavesNothing {n : ℕ} (S : Setting n) (G : List (FormalSum n)) (row : Member n) (a : FormalSum n) : Type 0 where
  pub quotients : AreQuotients S G (head_key row.vector) a
  pub reached : AreReached S.modulus G row.vector [] a
  pub vector : IsSame S.modulus row.vector (combination G a)

-- each row in turn is divided by the members of that moment, older and newer ones and those that the rows before it made, and becomes a member where it is not 0
abbrev pub MakesMembers : {n : ℕ} → Setting n → List (FormalSum n) → List (Member n) → List (Member n) → Type 0
MakesMembers S G [] made = made ≡ []
MakesMembers {n} S G (row ∷ rows) made =
    ((a : FormalSum n) × LeavesNothing S G row a × MakesMembers S G rows made)
    ⊎ ((a : FormalSum n) × (c : ℕ) × (d : ℕ) × (g : Member n) × (later : List (Member n)) × LeavesMember S G row a c d g × (made ≡ g ∷ later) × MakesMembers S (G ++ (g.vector ∷ [])) rows later)
