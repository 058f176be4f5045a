-- Rows, their spans and echelon forms (IVA chapter 2, section 1; UAG chapter 5, section 1)
use Rattle.std.specs.Prelude.{List, [], get_or, length, ℕ, ◌++◌, ◌<◌, ◌∷◌, ◌≡◌, ◌⊎◌}
use Rattle.monomials.specs.Exponents.{unit}
use Rattle.formal_sums.specs.FormalSums.{Each, FormalSum, IsSame, Key, scale}
use Rattle.bases.specs.Leads.{IsMonicLead, head_key}
use Rattle.bases.specs.Settings.{Setting}

-- the combination of rows by residues, one for each (IVA chapter 2, section 1)
abbrev pub row_combination : {n : ℕ} → List ℕ → List (FormalSum n) → FormalSum n
row_combination [] rows = []
row_combination (c ∷ cs) [] = []
row_combination {n} (c ∷ cs) (e ∷ rows) = scale c (unit n) e ++ row_combination cs rows

-- v is in the span of the rows: a combination of them, modulo p
pub record IsInSpan {n : ℕ} (p : ℕ) (rows : List (FormalSum n)) (v : FormalSum n) : Type 0 where
  pub residues : List ℕ
  pub sums : IsSame p (row_combination residues rows) v

-- M and E have one span: each row of the one list is in the span of the other
pub record HasSameSpan {n : ℕ} (p : ℕ) (M E : List (FormalSum n)) : Type 0 where
  pub inside : (i : ℕ) → i < length M → IsInSpan p E (get_or M i [])
  pub outside : (i : ℕ) → i < length E → IsInSpan p M (get_or E i [])

-- no two rows have one first key
abbrev pub HasDistinctLeads : {n : ℕ} → List (FormalSum n) → Type 0
HasDistinctLeads [] = Unit {0}
HasDistinctLeads (e ∷ rows) = Each (λ f. head_key e ≡ head_key f → ⊥) rows × HasDistinctLeads rows

-- some row has the first key k
abbrev pub ContainsLead : {n : ℕ} → List (FormalSum n) → Key n → Type 0
ContainsLead [] k = ⊥
ContainsLead (e ∷ rows) k = (head_key e ≡ k) ⊎ ContainsLead rows k

-- the rows are in echelon form: monic, and their leads apart (IVA chapter 2, section 1)
pub record IsEchelon {n : ℕ} (S : Setting n) (rows : List (FormalSum n)) : Type 0 where
  pub monic : Each (λ e. IsMonicLead S e (head_key e)) rows
  pub distinct : HasDistinctLeads rows
