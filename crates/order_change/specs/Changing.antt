-- What is known while the order is changed
use Rattle.std.specs.Prelude.{List, [], get_or, length, slice_index, ℕ, ◌*◌, ◌++◌, ◌+◌, ◌<◌, ◌∷◌, ◌≡◌, ◌≤◌, ◌⊎◌}
use Rattle.std.specs.declared.cmp.Ordering.TheVariants.{Less}
use Rattle.residues.specs.Residues.{IsCongruent}
use Rattle.monomials.specs.Exponents.{Divides, Exponents, exponents_of, unit}
use Rattle.formal_sums.specs.Combinations.{IsMember}
use Rattle.formal_sums.specs.FormalSums.{Each, FormalSum, Key, coefficient}
use Rattle.bases.specs.Leads.{IsMonicLead, leads}
use Rattle.monomial_orders.specs.Comparisons.{comparison}
use Rattle.monomial_orders.specs.Kept.{IsWeighed, Monomial, monomials}
use Rattle.term_lists.specs.Rings.{ring_comparison, setting}
use Rattle.term_lists.specs.Vectors.{HasPositions, IsVector, sums_of}
use Rattle.term_lists.specs.declared.key.Key.{Key as CodeKey}
use Rattle.term_lists.specs.declared.ring.Ring.{Ring}
use Rattle.change_laws.specs.Combinations.{IsSameModulo, expansion}
use Rattle.change_laws.specs.Standard.{Has, IsStandard, lead_monomials}
use Rattle.order_change.specs.Forms.{AreResidues, IsRowForm, monomial_vector}
use Rattle.order_change.specs.Lists.{AreMonomials, HaveDegrees}
use Rattle.order_change.specs.Products.{HadAllItems, IsAscending, variable_product_at}
use Rattle.order_change.specs.Rows.{AreRows, AreSame, IsCleared}
use Rattle.order_change.specs.declared.change.Change.{Change}
use Rattle.order_change.specs.declared.rows.Row.{Row}

-- some monomial of the list divides m
abbrev pub HasDivisor : {n : ℕ} → List (Exponents n) → Exponents n → Type 0
HasDivisor {n} H m = (k : ℕ) × (k < length H) × Divides (get_or H k (unit n)) m

-- the standard monomials of the new order so far, ascending: modulo the ideal of F each is the combination of the monomials B by its form,
-- and their forms have rows in echelon form, the last residue of whose combinations is that of the monomial
pub record AreNewStandard
    (n : ℕ) (ring : Ring) (F : List (FormalSum n)) (B : List (Exponents n)) (monos : List Monomial)
    (forms : List (List ℕ)) (rows : List Row) : Type 0 where
  pub monomials_of : AreMonomials n ring.weights monos
  pub degrees : HaveDegrees monos
  pub ascending : IsAscending (comparison ring.order ring.weights n) (monomials n monos)
  pub forms_long : length forms ≡ length monos
  pub residues : (k : ℕ) → k < length monos → AreResidues ring.modulus.value (length B) (get_or forms k [])
  pub forms_are : (k : ℕ) → k < length monos → IsRowForm ring.modulus.value F B (monomial_vector (get_or (monomials n monos) k (unit n))) (get_or forms k [])
  pub rows_long : length rows ≡ length monos
  pub rows_are : AreRows ring.modulus.value (length B) (length monos) rows
  pub same : AreSame ring.modulus.value F B (monomials n monos) rows
  pub diagonal :
      (l : ℕ) (row : Row)
      → l < length rows → get_or rows l row ≡ row → (0 < slice_index row.combination l) × (length row.combination ≤ l + 1)

-- the members of the new basis so far, the greatest lead first: members of the ideal of F, each a lead and monomials of N
pub record AreNewMembers
    (n : ℕ) (ring : Ring) (F : List (FormalSum n)) (N : List (Exponents n)) (heads : List Monomial)
    (members : List (List (CodeKey × ℕ))) : Type 0 where
  pub heads_of : AreMonomials n ring.weights heads
  pub vectors : Each (IsVector n ring.weights ring.modulus.value (ring_comparison ring n)) members
  pub positions : Each (HasPositions 1) members
  pub heads_are : monomials n heads ≡ lead_monomials (sums_of n members)
  pub inside : (i : ℕ) → i < length members → IsMember ring.modulus.value F (get_or (sums_of n members) i [])
  pub monic :
      (i : ℕ) → i < length members
      → IsMonicLead (setting ring n (ring_comparison ring n) 1) (get_or (sums_of n members) i []) (leads (sums_of n members) i)
  pub tails :
      (i : ℕ) (k : Key n)
      → i < length members → (IsCongruent ring.modulus.value (coefficient (get_or (sums_of n members) i []) k) 0 → ⊥)
      → (k ≡ leads (sums_of n members) i) ⊎ ((k.0 ≡ 0) × Has N k.1)
  pub uncovered : (m : Exponents n) → Has N m → IsStandard (monomials n heads) m
  pub falls :
      (i j : ℕ)
      → i < j → j < length heads
      → comparison ring.order ring.weights n (get_or (monomials n heads) j (unit n)) (get_or (monomials n heads) i (unit n)) ≡ Less
  pub apart :
      (i j : ℕ)
      → i < length heads → j < length heads → (i ≡ j → ⊥)
      → Divides (get_or (monomials n heads) j (unit n)) (get_or (monomials n heads) i (unit n)) → ⊥

-- each product that had its turn is one of N or has a divisor in H; those that wait are not below what is known
pub record AreTurns (n : ℕ) (ring : Ring) (N H : List (Exponents n)) (turns : List ℕ) : Type 0 where
  pub long : length turns ≡ n
  pub most : (v : ℕ) → v < n → slice_index turns v ≤ length N
  pub had : (v k : ℕ) → v < n → k < slice_index turns v → Has N (variable_product_at n N v k) ⊎ HasDivisor H (variable_product_at n N v k)
  pub above_standard :
      (v k : ℕ)
      → v < n → slice_index turns v < length N → k < length N
      → comparison ring.order ring.weights n (variable_product_at n N v (slice_index turns v)) (get_or N k (unit n)) ≡ Less → ⊥
  pub above_leads :
      (v k : ℕ)
      → v < n → slice_index turns v < length N → k < length H
      → comparison ring.order ring.weights n (variable_product_at n N v (slice_index turns v)) (get_or H k (unit n)) ≡ Less → ⊥
  pub first : Has N (unit n) ⊎ HasDivisor H (unit n)

-- the standard monomials and the members
pub record IsKnownSoFar (n : ℕ) (ring : Ring) (F : List (FormalSum n)) (B : List (Exponents n)) (change : Change) : Type 0 where
  pub standard : AreNewStandard n ring F B change.monomials.items change.forms.items change.rows.items
  pub members : AreNewMembers n ring F (monomials n change.monomials.items) change.leads.items change.members.items

-- and the turns
pub record IsChanging (n : ℕ) (ring : Ring) (F : List (FormalSum n)) (B : List (Exponents n)) (change : Change) : Type 0 where
  pub known : IsKnownSoFar n ring F B change
  pub turns : AreTurns n ring (monomials n change.monomials.items) (monomials n change.leads.items) change.turns

-- m can be the next: it is above the standard monomials, not below the leads, and none of these divides it
pub record IsNextMonomial (n : ℕ) (ring : Ring) (change : Change) (m : Monomial) : Type 0 where
  pub weighed : IsWeighed n ring.weights m
  pub degree : m.degree ≤ 255 * length change.monomials.items
  pub above :
      (k : ℕ)
      → k < length change.monomials.items
      → comparison ring.order ring.weights n (get_or (monomials n change.monomials.items) k (unit n)) (exponents_of n m.exponents) ≡ Less
  pub not_below :
      (k : ℕ)
      → k < length change.leads.items
      → comparison ring.order ring.weights n (exponents_of n m.exponents) (get_or (monomials n change.leads.items) k (unit n)) ≡ Less → ⊥
  pub free : IsStandard (monomials n change.leads.items) (exponents_of n m.exponents)

-- m is one more standard monomial, or one more lead
pub record IsMonomialAdded (old new : Change) (m : Monomial) : Type 0 where
  pub turns : new.turns ≡ old.turns
  pub one :
      ((new.monomials.items ≡ old.monomials.items ++ m ∷ []) × (new.leads.items ≡ old.leads.items))
      ⊎ ((new.monomials.items ≡ old.monomials.items) × (new.leads.items ≡ m ∷ old.leads.items))

-- what is left of the form of m without the rows, and the combination of the standard monomials and m that it then is
pub record IsRest
    (n : ℕ) (ring : Ring) (F : List (FormalSum n)) (B : List (Exponents n)) (change : Change) (m : Monomial)
    (form combination : List ℕ) : Type 0 where
  pub form_residues : AreResidues ring.modulus.value (length B) form
  pub combination_residues : AreResidues ring.modulus.value (length change.monomials.items + 1) combination
  pub one : slice_index combination (length change.monomials.items) ≡ 1
  pub cleared : IsCleared change.rows.items form (length change.rows.items)
  pub same :
      IsSameModulo ring.modulus.value F (expansion B (slice_index form))
      (expansion (monomials n change.monomials.items ++ exponents_of n m.exponents ∷ []) (slice_index combination))

-- modulo the ideal of F, m is the combination of B by the form
pub record IsFormModulo (n : ℕ) (ring : Ring) (F : List (FormalSum n)) (B : List (Exponents n)) (m : Exponents n) (form : List ℕ) : Type 0 where
  pub residues : AreResidues ring.modulus.value (length B) form
  pub is : IsRowForm ring.modulus.value F B (monomial_vector m) form

-- the end: each product had its turn
pub record IsChanged (n : ℕ) (ring : Ring) (F : List (FormalSum n)) (B : List (Exponents n)) (members : List (List (CodeKey × ℕ))) : Type 0 where
  pub monos : List Monomial
  pub forms : List (List ℕ)
  pub rows : List Row
  pub heads : List Monomial
  pub turns : List ℕ
  pub standard : AreNewStandard n ring F B monos forms rows
  pub members_are : AreNewMembers n ring F (monomials n monos) heads members
  pub turned : AreTurns n ring (monomials n monos) (monomials n heads) turns
  pub over : HadAllItems (slice_index turns) n (length monos)

-- the rows of each variable are forms of its products with the monomials B
pub record AreVariableProducts (n p : ℕ) (F : List (FormalSum n)) (B : List (Exponents n)) (table : List (List (List ℕ))) : Type 0 where
  pub long : length table ≡ n
  pub full : (v : ℕ) → v < n → length (get_or table v []) ≡ length B
  pub residues : (v k : ℕ) → v < n → k < length B → AreResidues p (length B) (get_or (get_or table v []) k [])
  pub forms : (v k : ℕ) → v < n → k < length B → IsRowForm p F B (monomial_vector (variable_product_at n B v k)) (get_or (get_or table v []) k [])
