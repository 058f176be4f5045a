-- Vectors as lists of terms
use Rattle.std.specs.Prelude.{List, length, map, ℕ, ◌<◌, ◌≡◌}
use Rattle.std.specs.declared.cmp.Ordering.{Ordering}
use Rattle.monomials.specs.Exponents.{exponents_of, unit}
use Rattle.formal_sums.specs.FormalSums.{Each, FormalSum, IsSame, Key, scale}
use Rattle.orders.specs.KeyOrders.{Descends}
use Rattle.bases.specs.Leads.{head_coefficient}
use Rattle.monomial_orders.specs.Kept.{IsWeighed, Monomial}
use Rattle.term_lists.specs.Rings.{variables}
use Rattle.term_lists.specs.declared.key.Key.{Key as CodeKey}
use Rattle.term_lists.specs.declared.ring.Ring.{Ring}

-- the key of n variables that the code's key is
abbrev pub key_of : (n : ℕ) → CodeKey → Key n
key_of n k = (k.position, exponents_of n k.monomial.exponents)

-- the vector that a list of terms stands for, whatever its order
abbrev pub sum_of : (n : ℕ) → List (CodeKey × ℕ) → FormalSum n
sum_of n terms = map (λ t. (key_of n t.0, t.1)) terms

-- the vectors of a list
abbrev pub sums_of : (n : ℕ) → List (List (CodeKey × ℕ)) → List (FormalSum n)
sums_of n list = map (λ v. sum_of n v) list

-- the term has n variables
abbrev pub HasVariables : ℕ → CodeKey × ℕ → Type 0
HasVariables n t = length t.0.monomial.exponents ≡ n

-- the term has a residue of p that is not 0, and a monomial in n variables of these weights
pub record IsTerm (n : ℕ) (ws : List ℕ) (p : ℕ) (t : CodeKey × ℕ) : Type 0 where
  pub weighed : IsWeighed n ws t.0.monomial
  pub nonzero : 0 < t.1
  pub reduced : t.1 < p

-- the terms are such, and their keys strictly descend
pub record IsVector (n : ℕ) (ws : List ℕ) (p : ℕ) (compare : Key n → Key n → Ordering) (terms : List (CodeKey × ℕ)) : Type 0 where
  pub each : Each (IsTerm n ws p) terms
  pub descends : Descends compare (sum_of n terms)

-- a monomial of the ring
abbrev pub IsMonomialOver : Ring → Monomial → Type 0
IsMonomialOver ring m = IsWeighed (variables ring) ring.weights m

-- the same over a ring
abbrev pub IsVectorOver : Ring → ((n : ℕ) → Key n → Key n → Ordering) → List (CodeKey × ℕ) → Type 0
IsVectorOver ring compare terms = IsVector (variables ring) ring.weights ring.modulus.value (compare (variables ring)) terms

-- each item of a list is a vector over the ring
abbrev pub AreVectorsOver : Ring → ((n : ℕ) → Key n → Key n → Ordering) → List (List (CodeKey × ℕ)) → Type 0
AreVectorsOver ring compare list = Each (λ v. IsVectorOver ring compare v) list

-- terms of the ring in any order, that may share keys and have residue 0
abbrev pub AreTermsOver : Ring → List (CodeKey × ℕ) → Type 0
AreTermsOver ring terms = Each (λ t. IsMonomialOver ring t.0.monomial × (t.1 < ring.modulus.value)) terms

-- a list of terms stands for this formal sum, modulo the ring's modulus
abbrev pub StandsFor : (ring : Ring) → List (CodeKey × ℕ) → FormalSum (variables ring) → Type 0
StandsFor ring terms v = IsSame ring.modulus.value (sum_of (variables ring) terms) v

-- all positions are below the rank
abbrev pub HasPositions : ℕ → List (CodeKey × ℕ) → Type 0
HasPositions rank terms = Each (λ t. t.0.position < rank) terms

-- new is old times a residue that is not 0, with first coefficient 1; zero stays zero
pub record IsMonicOf (ring : Ring) (old new : List (CodeKey × ℕ)) : Type 0 where
  pub factor : ℕ
  pub nonzero : 0 < factor
  pub reduced : factor < ring.modulus.value
  pub multiple : StandsFor ring new (scale factor (unit (variables ring)) (sum_of (variables ring) old))
  pub keys : map (λ t. t.0) new ≡ map (λ t. t.0) old
  pub one : 0 < length old → head_coefficient (sum_of (variables ring) new) ≡ 1
