-- What the loop of a division keeps
use Rattle.std.specs.Prelude.{List, None, Option, Some, [], drop, get_or, length, map, suc, ⊤, ℕ, ◌%◌, ◌*◌, ◌++◌, ◌-◌, ◌<◌, ◌∷◌, ◌≡◌, ◌≤◌}
use Rattle.std.specs.declared.cmp.Ordering.{Ordering}
use Rattle.monomials.specs.Exponents.{IsWithin, exponents_of}
use Rattle.formal_sums.specs.FormalSums.{Each, FormalSum, IsSame, Key, scale, shift}
use Rattle.orders.specs.KeyOrders.{KeyDivides}
use Rattle.orders.specs.Room.{room}
use Rattle.bases.specs.Leads.{head_coefficient, head_key}
use Rattle.monomial_orders.specs.Kept.{IsWeighed, Monomial}
use Rattle.term_lists.specs.Stops.{Fits, HasMonomial, IsTooGreat}
use Rattle.term_lists.specs.Vectors.{HasVariables, IsVector, sum_of, sums_of}
use Rattle.term_lists.specs.declared.key.Key.{Key as CodeKey}
use Rattle.term_lists.specs.declared.stop.VectStop.{VectStop}
use Rattle.term_lists.specs.declared.stop.VectStop.TheVariants.{Memory, Degree}
use Rattle.module_vectors.specs.Trails.{IsMet, KeptProduct, kept_product_lead}
use Rattle.vector_division.specs.Divisions.{IsUncovered}
use Rattle.vector_division.specs.Reductions.{unscaled}
use Rattle.vector_division.specs.declared.reduction.ScaledProduct.{ScaledProduct}

-- each vector of the list has n variables
abbrev pub HaveVariables : ℕ → List (List (CodeKey × ℕ)) → Type 0
HaveVariables n list = Each (λ v. Each (HasVariables n) v) list

-- the monomials of the list are in n variables of these weights
abbrev pub AreWeighed : ℕ → List ℕ → List (List (CodeKey × ℕ)) → Type 0
AreWeighed n weights list = Each (λ v. Each (λ t. IsWeighed n weights t.0.monomial) v) list

-- t times the lead of v, which is not zero, is k; or the lead does not divide k
abbrev pub IsTried : (n : ℕ) → List ℕ → List (CodeKey × ℕ) → Key n → Option Monomial → Type 0
IsTried n weights v k None = 0 < length v → KeyDivides (head_key (sum_of n v)) k → ⊥
IsTried n weights v k (Some t) = (0 < length v) × IsWeighed n weights t × (shift (exponents_of n t.exponents) (head_key (sum_of n v)) ≡ k)

-- none of the first i vectors that are not zero has a lead that divides k
abbrev pub AreTried : (n : ℕ) → List (List (CodeKey × ℕ)) → Key n → ℕ → Type 0
AreTried n list k i = (j : ℕ) → j < i → 0 < length (get_or list j []) → KeyDivides (head_key (sum_of n (get_or list j []))) k → ⊥

-- a product with the lead k
pub record IsDivisor (n : ℕ) (weights : List ℕ) (list : List (List (CodeKey × ℕ))) (k : Key n) (s : KeptProduct) : Type 0 where
  pub index : s.0 < length list
  pub some : 0 < length (get_or list s.0 [])
  pub variables : IsWeighed n weights s.1
  pub lead : kept_product_lead n list s ≡ k

-- such a product, or none where no lead of the list divides k
abbrev pub IsFound : (n : ℕ) → List ℕ → List (List (CodeKey × ℕ)) → Key n → Option KeptProduct → Type 0
IsFound n weights list k None = IsUncovered (sums_of n list) k
IsFound n weights list k (Some s) = IsDivisor n weights list k s

-- c is the residue a / b
pub record IsFactor (p a b c : ℕ) : Type 0 where
  pub nonzero : 0 < c
  pub reduced : c < p
  pub product : (c * b) % p ≡ a

-- the greatest position that a key can have
abbrev pub last_position : ℕ
last_position = 18446744073709551615

-- the first key has a position and exponents that the code can hold
abbrev pub HasBoundedHead : {n : ℕ} → FormalSum n → Type 0
HasBoundedHead [] = ⊤
HasBoundedHead (t ∷ v) = (t.0.0 ≤ last_position) × IsWithin 65535 t.0.1

-- a number that falls as the first key does, 0 where there is none
abbrev pub room_of : {n : ℕ} → (Key n → Key n → Ordering) → FormalSum n → ℕ
room_of compare [] = 0
room_of compare (t ∷ v) = suc (room last_position 65535 compare t.0)

-- the quotients are of vectors of the list
abbrev pub AreKnown : ℕ → List ScaledProduct → Type 0
AreKnown count qs = Each (λ q. q.index < count) qs

-- the quotients' monomials are in n variables of these weights
abbrev pub HaveLengths : ℕ → List ℕ → List ScaledProduct → Type 0
HaveLengths n weights qs = Each (λ q. IsWeighed n weights q.monomial) qs

-- a product of n variables that is met by v or by the products taken away, and too great for a monomial of its vector
pub record IsFailingProduct (n : ℕ) (weights : List ℕ) (v : List (CodeKey × ℕ)) (list : List (List (CodeKey × ℕ))) (qs : List ScaledProduct) (s : KeptProduct)
    (last : Monomial) : Type 0 where
  pub index : s.0 < length list
  pub variables : IsWeighed n weights s.1
  pub met : IsMet n (sum_of n v) list (map unscaled qs) (kept_product_lead n list s)
  pub monomial : HasMonomial (get_or list s.0 []) last
  pub last_variables : IsWeighed n weights last
  pub too_great : IsTooGreat s.1 last

-- c t g is taken away: the term of `old` at this index has the residue c times that of the lead of g
pub record IsSubtraction (n : ℕ) (weights : List ℕ) (p : ℕ) (compare : Key n → Key n → Ordering) (t : Monomial) (g : List (CodeKey × ℕ)) (at : ℕ)
    (old new : List (CodeKey × ℕ)) (c : ℕ) : Type 0 where
  pub nonzero : 0 < c
  pub reduced : c < p
  pub product : (c * head_coefficient (sum_of n g)) % p ≡ head_coefficient (drop at (sum_of n old))
  pub vector : IsVector n weights p compare new
  pub sum : IsSame p (sum_of n new) (sum_of n old ++ scale (p - c) (exponents_of n t.exponents) (sum_of n g))
  pub fits : Fits t g
  pub bound : HasBoundedHead (drop at (sum_of n new))

-- Degree comes where t times a monomial of g has too great a degree, and carries the two
abbrev pub SubtractionStops : Monomial → List (CodeKey × ℕ) → VectStop → Type 0
SubtractionStops t g Memory = ⊤
SubtractionStops t g (Degree a b) = (a ≡ t) × HasMonomial g b × IsTooGreat a b
