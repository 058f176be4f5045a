-- Leads (IVA chapter 2, section 2; UAG chapter 5, section 2)
use Rattle.std.specs.Prelude.{List, [], get_or, length, ℕ, ◌<◌, ◌∷◌, ◌≡◌}
use Rattle.std.specs.declared.cmp.Ordering.TheVariants.{Less}
use Rattle.residues.specs.Residues.{IsCongruent}
use Rattle.monomials.specs.Exponents.{unit}
use Rattle.formal_sums.specs.FormalSums.{Each, FormalSum, Key, coefficient}
use Rattle.orders.specs.KeyOrders.{Descends}
use Rattle.bases.specs.Settings.{Setting}

-- k is the lead of v: the coefficient at k is not 0, and those above are (IVA chapter 2, section 2)
pub record IsLead {n : ℕ} (S : Setting n) (v : FormalSum n) (k : Key n) : Type 0 where
  pub nonzero : IsCongruent S.modulus (coefficient v k) 0 → ⊥
  pub above : (l : Key n) → S.compare k l ≡ Less → IsCongruent S.modulus (coefficient v l) 0

-- k is the lead of v, and the coefficient there is 1
pub record IsMonicLead {n : ℕ} (S : Setting n) (v : FormalSum n) (k : Key n) : Type 0 where
  pub one : IsCongruent S.modulus (coefficient v k) 1
  pub above : (l : Key n) → S.compare k l ≡ Less → IsCongruent S.modulus (coefficient v l) 0

-- the first key of a list of terms; (0, 1) where there is none
abbrev pub head_key : {n : ℕ} → FormalSum n → Key n
head_key {n = n} [] = (0, unit n)
head_key (t ∷ v) = t.0

-- the first coefficient of a list of terms; 0 where there is none
abbrev pub head_coefficient : {n : ℕ} → FormalSum n → ℕ
head_coefficient [] = 0
head_coefficient (t ∷ v) = t.1

-- the first key of each member
abbrev pub leads : {n : ℕ} → List (FormalSum n) → ℕ → Key n
leads G i = head_key (get_or G i [])

-- the coefficients are reduced and not 0
abbrev pub HasReducedResidues : {n : ℕ} → Setting n → FormalSum n → Type 0
HasReducedResidues S v = Each (λ t. (0 < t.1) × (t.1 < S.modulus)) v

-- v is in normal form: strictly descending keys, and reduced coefficients that are not 0
pub record IsNormal {n : ℕ} (S : Setting n) (v : FormalSum n) : Type 0 where
  pub descends : Descends S.compare v
  pub residues : HasReducedResidues S v

-- the members of G are monic, their first keys are their leads, and these have the rank
pub record IsMonicList {n : ℕ} (S : Setting n) (G : List (FormalSum n)) : Type 0 where
  pub monic : (i : ℕ) → i < length G → IsMonicLead S (get_or G i []) (leads G i)
  pub ranked : (i : ℕ) → i < length G → (leads G i).0 < S.rank
