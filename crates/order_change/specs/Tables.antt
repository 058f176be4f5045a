-- The normal forms of products of variables and standard monomials
use Rattle.std.specs.Prelude.{List, [], get_or, length, slice_index, ℕ, ◌<◌, ◌≡◌, ◌≤◌}
use Rattle.std.specs.declared.cmp.Ordering.{Ordering}
use Rattle.std.specs.declared.cmp.Ordering.TheVariants.{Less}
use Rattle.monomials.specs.Exponents.{Exponents, exponents_of, times, unit}
use Rattle.formal_sums.specs.FormalSums.{Each, FormalSum}
use Rattle.bases.specs.Bases.{IsReducedSet}
use Rattle.bases.specs.Settings.{IsLawful}
use Rattle.monomial_orders.specs.Comparisons.{comparison}
use Rattle.monomial_orders.specs.Kept.{IsWeighed, Monomial, monomials}
use Rattle.term_lists.specs.Rings.{ring_comparison, setting}
use Rattle.term_lists.specs.Vectors.{HasPositions, IsVector, sums_of}
use Rattle.term_lists.specs.declared.key.Key.{Key as CodeKey}
use Rattle.term_lists.specs.declared.ring.Ring.{Ring}
use Rattle.change_laws.specs.Standard.{AreStandard, Has, IsStandard, lead_monomials, power}
use Rattle.order_change.specs.Forms.{AreResidues, IsRowForm, monomial_vector}
use Rattle.order_change.specs.Lists.{AreMonomials}
use Rattle.order_change.specs.Products.{HaveRoom, IsAscending, variable_product_at}

-- modulo the ideal of F, m is the combination of the monomials B by the row, and none of those in it is above m
pub record IsRowNormalForm {n : ℕ}
    (compare : Exponents n → Exponents n → Ordering) (p : ℕ) (F : List (FormalSum n)) (B : List (Exponents n))
    (m : Exponents n) (row : List ℕ) : Type 0 where
  pub residues : AreResidues p (length B) row
  pub same : IsRowForm p F B (monomial_vector m) row
  pub below : (k : ℕ) → k < length B → 0 < slice_index row k → compare m (get_or B k (unit n)) ≡ Less → ⊥

-- the rows of each variable are the normal forms of its products with the first monomials of B
abbrev pub AreForms : {n : ℕ} → (Exponents n → Exponents n → Ordering) → ℕ → List (FormalSum n) → List (Exponents n) → List (List (List ℕ)) → Type 0
AreForms {n} compare p F B table =
    (v k : ℕ) → v < n → k < length (get_or table v []) → IsRowNormalForm compare p F B (variable_product_at n B v k) (get_or (get_or table v []) k [])

-- with all monomials of B
pub record IsNormalFormTable {n : ℕ}
    (compare : Exponents n → Exponents n → Ordering) (p : ℕ) (F : List (FormalSum n)) (B : List (Exponents n))
    (table : List (List (List ℕ))) : Type 0 where
  pub long : length table ≡ n
  pub full : (v : ℕ) → v < n → length (get_or table v []) ≡ length B
  pub forms : AreForms compare p F B table

-- the rows that are there while it is filled: as many of each variable as it has had turns
pub record IsFilling {n : ℕ}
    (compare : Exponents n → Exponents n → Ordering) (p : ℕ) (F : List (FormalSum n)) (B : List (Exponents n))
    (turns : List ℕ) (table : List (List (List ℕ))) : Type 0 where
  pub turns_long : length turns ≡ n
  pub long : length table ≡ n
  pub counted : (v : ℕ) → v < n → slice_index turns v ≡ length (get_or table v [])
  pub most : (v : ℕ) → v < n → slice_index turns v ≤ length B
  pub forms : AreForms compare p F B table

-- a reduced basis of an ideal, its leads, and its standard monomials, these ascending
pub record IsBasisGiven (n : ℕ) (ring : Ring) (basis : List (List (CodeKey × ℕ))) (leads standard : List Monomial) : Type 0 where
  pub lawful : IsLawful (setting ring n (ring_comparison ring n) 1)
  pub vectors : Each (IsVector n ring.weights ring.modulus.value (ring_comparison ring n)) basis
  pub positions : Each (HasPositions 1) basis
  pub reduced : IsReducedSet (setting ring n (ring_comparison ring n) 1) (sums_of n basis) (sums_of n basis)
  pub leads_of : AreMonomials n ring.weights leads
  pub leads_are : monomials n leads ≡ lead_monomials (sums_of n basis)
  pub standard_of : AreMonomials n ring.weights standard
  pub are_standard : AreStandard (monomials n leads) (monomials n standard)
  pub ascending : IsAscending (comparison ring.order ring.weights n) (monomials n standard)
  pub room : HaveRoom standard
  pub few : length standard ≤ 256

-- the row is the normal form of m by a basis and its standard monomials
abbrev pub IsFormOver : (n : ℕ) → Ring → List (List (CodeKey × ℕ)) → (standard : List Monomial) → Exponents n → List ℕ → Type 0
IsFormOver n ring basis standard m row =
    IsRowNormalForm (comparison ring.order ring.weights n) ring.modulus.value (sums_of n basis) (monomials n standard) m row

-- so are the rows of each variable of its products
abbrev pub AreFormsOver : (n : ℕ) → Ring → List (List (CodeKey × ℕ)) → (standard : List Monomial) → List (List (List ℕ)) → Type 0
AreFormsOver n ring basis standard table =
    AreForms (comparison ring.order ring.weights n) ring.modulus.value (sums_of n basis) (monomials n standard) table

-- and these are all
abbrev pub IsTableOver : (n : ℕ) → Ring → List (List (CodeKey × ℕ)) → (standard : List Monomial) → List (List (List ℕ)) → Type 0
IsTableOver n ring basis standard table =
    IsNormalFormTable (comparison ring.order ring.weights n) ring.modulus.value (sums_of n basis) (monomials n standard) table

-- m is the multiple by the variable j of a monomial that is not standard
abbrev pub IsSpare : (n : ℕ) → List (Exponents n) → Exponents n → (j : ℕ) → Type 0
IsSpare n L m j = (j < n) × (q : Exponents n) × (times (power n j 1) q ≡ m) × (IsStandard L q → ⊥)

-- the item h is the item k without the variable j
abbrev pub IsSmaller : (n : ℕ) → (B : List (Exponents n)) → (k j h : ℕ) → Type 0
IsSmaller n B k j h = (h < length B) × (times (get_or B h (unit n)) (power n j 1) ≡ get_or B k (unit n))

-- a term of a polynomial, with a monomial of B
pub record IsTailTerm (n : ℕ) (ws : List ℕ) (p : ℕ) (B : List (Exponents n)) (t : CodeKey × ℕ) : Type 0 where
  pub weighed : IsWeighed n ws t.0.monomial
  pub reduced : t.1 < p
  pub position : t.0.position ≡ 0
  pub has : Has B (exponents_of n t.0.monomial.exponents)

abbrev pub AreTailTerms : (n : ℕ) → List ℕ → ℕ → List (Exponents n) → List (CodeKey × ℕ) → Type 0
AreTailTerms n ws p B terms = (i : ℕ) (t : CodeKey × ℕ) → i < length terms → get_or terms i t ≡ t → IsTailTerm n ws p B t

-- where the row has a residue, the monomial is that of one of the first i terms
abbrev pub IsSupported : (n : ℕ) → List (Exponents n) → List (CodeKey × ℕ) → (i : ℕ) → List ℕ → Type 0
IsSupported n B terms i row =
    (k : ℕ) → k < length B → 0 < slice_index row k
    → (j : ℕ) × (t : CodeKey × ℕ) × (j < i) × (get_or terms j t ≡ t) × (get_or B k (unit n) ≡ exponents_of n t.0.monomial.exponents)

abbrev pub IsFillingOver : (n : ℕ) → Ring → List (List (CodeKey × ℕ)) → (standard : List Monomial) → List ℕ → List (List (List ℕ)) → Type 0
IsFillingOver n ring basis standard turns table =
    IsFilling (comparison ring.order ring.weights n) ring.modulus.value (sums_of n basis) (monomials n standard) turns table
