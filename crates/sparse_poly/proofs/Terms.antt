-- Vectors' terms and the coefficients of the sums that they stand for
use Rattle.std.proofs.Common.{Greater, List, Ordering, [], ap, arith, eq-zero-or-pos, get_or, inl, inr, length, refl, subst, suc, sym, zero, ℕ, ◌*◌, ◌+◌, ◌<◌, ◌∙◌, ◌∷◌, ◌≡◌, ◌≤◌, ◌⊎◌}
use Rattle.std.proofs.lemmas.Bool.{cases_lt}
use Rattle.std.specs.Prelude.{Contains}
use Rattle.residues.proofs.Congruences.{IsCongruent_decide, IsCongruent_nonzero, IsCongruent_of, IsCongruent_sym, IsCongruent_trans}
use Rattle.residues.specs.Residues.{IsCongruent}
use Rattle.monomials.specs.Exponents.{exponents_of}
use Rattle.monomials.specs.Weights.{weighted_degree}
use Rattle.formal_sums.proofs.WeightedSums.{indicator_other, indicator_same, key_cases}
use Rattle.formal_sums.specs.FormalSums.{Each, FormalSum, IsPolynomial, IsSame, Key, coefficient, indicator}
use Rattle.orders.proofs.KeyOrdering.{less_of_greater, not_itself}
use Rattle.orders.specs.KeyOrders.{Descends, IsKeyOrder}
use Rattle.monomial_orders.specs.Kept.{IsWeighed, Monomial}
use Rattle.term_lists.specs.Stops.{HasMonomial}
use Rattle.term_lists.specs.Vectors.{HasPositions, IsTerm, IsVector, key_of, sum_of}
use Rattle.term_lists.specs.declared.key.Key.{Key as CodeKey}
use Rattle.sparse_poly.proofs.TopDegrees.{coefficient_elsewhere}
use Rattle.sparse_poly.specs.Degrees.{HasDegreeWithin, IsWithinDegree}
use Rattle.sparse_poly.specs.Stops.{OccursInPolynomial}

at_index : {X : Type 0} (P : X → Type 0) (xs : List X) (x : X) (i : ℕ) → i < length xs → get_or xs i x ≡ x → Each P xs → P x
at_index P [] x i lt e h = absurd (omega arith)
at_index P (y ∷ ys) x zero lt e h = subst P e h.0
at_index P (y ∷ ys) x (suc i) lt e h = at_index P ys x i (omega arith) e h.1

-- what holds of each item holds of an item
pub each_at : {X : Type 0} (P : X → Type 0) (xs : List X) (x : X) → Each P xs → Contains xs x → P x
each_at P xs x h c = at_index P xs x c.0 c.1 c.2 h

-- what holds of any item holds of each
pub each_of : {X : Type 0} (P : X → Type 0) (xs : List X) → ((x : X) → Contains xs x → P x) → Each P xs
each_of P [] f = tt
each_of P (y ∷ ys) f = (f y (0, omega arith, refl), each_of P ys (λ x c. f x (suc c.0, (let lt = c.1 in omega arith), c.2)))

pub each_weighed :
    (n : ℕ) (ws : List ℕ) (p : ℕ) (terms : List (CodeKey × ℕ)) → Each (IsTerm n ws p) terms
    → Each (λ t. IsWeighed n ws t.0.monomial) terms
each_weighed n ws p [] h = tt
each_weighed n ws p (t ∷ terms) h = (h.0.weighed, each_weighed n ws p terms h.1)

-- a key whose coefficient is not 0 is that of a term
pub term_at :
    {n : ℕ} (p : ℕ) (terms : List (CodeKey × ℕ)) (k : Key n)
    → (IsCongruent p (coefficient (sum_of n terms) k) 0 → ⊥)
    → (t : CodeKey × ℕ) × Contains terms t × (key_of n t.0 ≡ k)
term_at p [] k h = absurd (h (IsCongruent_of p 0 0 refl))
term_at {n} p (s ∷ terms) k h = by (key_cases k (key_of n s.0)) (λ d. term_at p terms k d)
  where
    by :
        (k ≡ key_of n s.0) ⊎ (k ≡ key_of n s.0 → ⊥)
        → ((IsCongruent p (coefficient (sum_of n terms) k) 0 → ⊥) → (t : CodeKey × ℕ) × Contains terms t × (key_of n t.0 ≡ k))
        → (t : CodeKey × ℕ) × Contains (s ∷ terms) t × (key_of n t.0 ≡ k)
    by (inl e) later = (s, (0, omega arith, refl), sym e)
    by (inr ne) later =
        let none : indicator k (key_of n s.0) ≡ 0 = indicator_other k (key_of n s.0) ne in
        let rest = later (λ z. h (IsCongruent_trans (IsCongruent_of p _ _ (rw none (omega arith))) z)) in
        (rest.0, (suc rest.1.0, (let lt = rest.1.1 in omega arith), rest.1.2), rest.2)

-- a bound on the terms' degrees is one on that of the sum
pub HasDegreeWithin_of :
    {n d : ℕ} (ws : List ℕ) (p : ℕ) (terms : List (CodeKey × ℕ)) → Each (λ t. IsWeighed n ws t.0.monomial) terms
    → IsWithinDegree d terms → HasDegreeWithin ws p d (sum_of n terms)
HasDegreeWithin_of {n} {d} ws p terms vars h = record { above = λ k lt. by k lt (IsCongruent_decide p (coefficient (sum_of n terms) k)) }
  where
    by :
        (k : Key n)
        → d < weighted_degree ws k.1 → IsCongruent p (coefficient (sum_of n terms) k) 0 ⊎ (IsCongruent p (coefficient (sum_of n terms) k) 0 → ⊥)
        → IsCongruent p (coefficient (sum_of n terms) k) 0
    by k lt (inl z) = z
    by k lt (inr nz) =
        let t = term_at p terms k nz in
        let e : weighted_degree ws (exponents_of n t.0.0.monomial.exponents) ≡ weighted_degree ws k.1 = ap (λ x. weighted_degree ws x.1) t.2 in
        let s = (each_at (λ u. IsWeighed n ws u.0.monomial) terms t.0 vars t.1).degree in
        let le : t.0.0.monomial.degree ≤ d = each_at (λ u. u.0.monomial.degree ≤ d) terms t.0 h t.1 in
        absurd (omega arith)

-- terms at position 0 are a polynomial
pub IsPolynomial_of : (n : ℕ) (terms : List (CodeKey × ℕ)) → HasPositions 1 terms → IsPolynomial (sum_of n terms)
IsPolynomial_of n [] h = tt
IsPolynomial_of n (t ∷ terms) h = let lt : t.0.position < 1 = h.0 in (omega arith, IsPolynomial_of n terms h.1)

module _ {n r : ℕ} {compare : Key n → Key n → Ordering} (order : IsKeyOrder r compare) (ws : List ℕ) (p : ℕ) where
  absent :
      (k : Key n) (terms : List (CodeKey × ℕ))
      → Each (λ u. compare k u.0 ≡ Greater) (sum_of n terms) → coefficient (sum_of n terms) k ≡ 0
  absent k [] h = refl
  absent k (t ∷ terms) h =
      let z = absent k terms h.1 in
      let none : indicator k (key_of n t.0) ≡ 0 = indicator_other k (key_of n t.0) (λ e. not_itself order k (less_of_greater order k k (ap (compare k) e ∙ h.0))) in
      rw (none, z) (omega arith)

  below_head :
      (k : Key n) (terms : List (CodeKey × ℕ))
      → Each (λ u. compare k u.0 ≡ Greater) (sum_of n terms) → Each (λ u. compare k (key_of n u.0) ≡ Greater) terms
  below_head k [] h = tt
  below_head k (t ∷ terms) h = (h.0, below_head k terms h.1)

  -- the coefficient at a term's key is its residue
  coefficient_at :
      (terms : List (CodeKey × ℕ)) (t : CodeKey × ℕ) (i : ℕ)
      → Descends compare (sum_of n terms) → i < length terms → get_or terms i t ≡ t
      → coefficient (sum_of n terms) (key_of n t.0) ≡ t.1
  coefficient_at [] t i h lt e = absurd (omega arith)
  coefficient_at (s ∷ terms) t zero h lt e =
      let one : indicator (key_of n s.0) (key_of n s.0) ≡ 1 = indicator_same (key_of n s.0) (key_of n s.0) refl in
      let z : coefficient (sum_of n terms) (key_of n s.0) ≡ 0 = absent (key_of n s.0) terms h.0 in
      let here : s.1 * indicator (key_of n s.0) (key_of n s.0) + coefficient (sum_of n terms) (key_of n s.0) ≡ s.1 = rw (one, z) (omega arith) in
      ap (λ u. coefficient (sum_of n (s ∷ terms)) (key_of n u.0)) (sym e) ∙ here ∙ ap (λ u. u.1) e
  coefficient_at (s ∷ terms) t (suc i) h lt e =
      let rest = coefficient_at terms t i h.1 (omega arith) e in
      let g : compare (key_of n s.0) (key_of n t.0) ≡ Greater = at_index (λ u. compare (key_of n s.0) (key_of n u.0) ≡ Greater) terms t i (omega arith) e (below_head (key_of n s.0) terms h.0) in
      let none : indicator (key_of n t.0) (key_of n s.0) ≡ 0 = indicator_other (key_of n t.0) (key_of n s.0) (λ d. not_itself order (key_of n s.0) (less_of_greater order (key_of n s.0) (key_of n s.0) (ap (compare (key_of n s.0)) (sym d) ∙ g))) in
      rw (none, rest) (omega arith)

  -- a vector's coefficients at its terms' keys are not 0
  pub term_nonzero :
      (terms : List (CodeKey × ℕ)) (t : CodeKey × ℕ)
      → IsVector n ws p compare terms → Contains terms t
      → IsCongruent p (coefficient (sum_of n terms) (key_of n t.0)) 0 → ⊥
  term_nonzero terms t h c z =
      let term = each_at (IsTerm n ws p) terms t h.each c in
      IsCongruent_nonzero p t.1 term.nonzero term.reduced
      (IsCongruent_trans (IsCongruent_of p _ _ (sym (coefficient_at terms t c.0 h.descends c.1 c.2))) z)

  -- a bound on the degree is one on the terms' degrees
  pub IsWithinDegree_of :
      (terms : List (CodeKey × ℕ)) (d : ℕ)
      → IsVector n ws p compare terms → HasDegreeWithin ws p d (sum_of n terms) → IsWithinDegree d terms
  IsWithinDegree_of terms d h b = each_of (λ t. t.0.monomial.degree ≤ d) terms (λ t c. by t c (cases_lt d t.0.monomial.degree))
    where
      by : (t : CodeKey × ℕ) → Contains terms t → (d < t.0.monomial.degree) ⊎ (t.0.monomial.degree ≤ d) → t.0.monomial.degree ≤ d
      by t c (inl lt) =
          let e = (each_at (IsTerm n ws p) terms t h.each c).weighed.degree in
          absurd (term_nonzero terms t h c (b.above (key_of n t.0) (omega arith)))
      by t c (inr le) = le

  -- the terms of a vector that stands for a polynomial are at position 0
  pub HasPositions_of :
      (terms : List (CodeKey × ℕ)) (v : FormalSum n)
      → IsVector n ws p compare terms → IsSame p (sum_of n terms) v → IsPolynomial v → HasPositions 1 terms
  HasPositions_of terms v h same poly = each_of (λ t. t.0.position < 1) terms (λ t c. by t c (eq-zero-or-pos t.0.position))
    where
      by : (t : CodeKey × ℕ) → Contains terms t → (t.0.position ≡ 0) ⊎ (0 < t.0.position) → t.0.position < 1
      by t c (inl z) = omega arith
      by t c (inr pos) = absurd (term_nonzero terms t h c (IsCongruent_trans (same.by_key (key_of n t.0)) (IsCongruent_of p _ 0 (coefficient_elsewhere v poly (key_of n t.0) pos))))

  -- a monomial of a vector at position 0 occurs in what it stands for
  pub Occurs_of :
      (terms : List (CodeKey × ℕ)) (v : FormalSum n) (m : Monomial)
      → IsVector n ws p compare terms → HasPositions 1 terms → IsSame p (sum_of n terms) v → HasMonomial terms m
      → OccursInPolynomial p v (exponents_of n m.exponents)
  Occurs_of terms v m h positions same has z =
      let lt : has.0.0.position < 1 = each_at (λ t. t.0.position < 1) terms has.0 positions has.1 in
      let e : key_of n has.0.0 ≡ (0, exponents_of n has.0.0.monomial.exponents) = ap (λ i. (i, exponents_of n has.0.0.monomial.exponents)) (omega arith) in
      let d : key_of n has.0.0 ≡ (0, exponents_of n m.exponents) = e ∙ ap (λ x. (0, exponents_of n x.exponents)) has.2 in
      term_nonzero terms has.0 h has.1
      (IsCongruent_trans (same.by_key (key_of n has.0.0)) (subst (λ k. IsCongruent p (coefficient v k) 0) (sym d) z))

  -- what occurs there is the monomial of a term
  pub HasMonomial_of :
      (terms : List (CodeKey × ℕ)) (v : FormalSum n) (m : _)
      → IsSame p (sum_of n terms) v → OccursInPolynomial p v m
      → (t : CodeKey × ℕ) × Contains terms t × (exponents_of n t.0.monomial.exponents ≡ m)
  HasMonomial_of terms v m same occurs =
      let t = term_at p terms (0, m) (λ z. occurs (IsCongruent_trans (IsCongruent_sym (same.by_key (0, m))) z)) in
      (t.0, t.1, ap (λ k. k.1) t.2)

  -- a monomial of a vector is weighed
  pub weighed_of :
      (terms : List (CodeKey × ℕ)) (m : Monomial) → IsVector n ws p compare terms → HasMonomial terms m → IsWeighed n ws m
  weighed_of terms m h has = subst (IsWeighed n ws) has.2 (each_at (IsTerm n ws p) terms has.0 h.each has.1).weighed
