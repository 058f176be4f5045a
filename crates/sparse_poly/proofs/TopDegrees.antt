-- The greatest degrees of products and powers: in a domain leads multiply, and by degree the lead has the greatest one
use Rattle.std.proofs.Common.{Equal, Greater, Less, List, Ordering, [], ap, ap₂, arith, cond, eq-zero-or-pos, inl, inr, refl, subst, suc, sym, zero, ℕ, ◌*◌, ◌+◌, ◌<◌, ◌∙◌, ◌∷◌, ◌≡◌, ◌≤◌, ◌⊎◌}
use Rattle.std.proofs.lemmas.Bool.{cases_lt}
use Rattle.std.proofs.Math.Nat.{mul-le-mul_right}
use Rattle.std.specs.Cmp.{nat_cmp_is}
use Rattle.std.specs.Ordering.{ordering_then}
use Rattle.residues.proofs.Congruences.{IsCongruent_domain, IsCongruent_of, IsCongruent_sym, IsCongruent_trans}
use Rattle.residues.specs.Residues.{IsCongruent, IsDomain}
use Rattle.monomials.proofs.Monomials.{times_comm}
use Rattle.monomials.proofs.Weighing.{weighted_degree-times, weighted_degree-unit}
use Rattle.monomials.specs.Exponents.{Exponents, times, unit}
use Rattle.monomials.specs.Weights.{weighted_degree}
use Rattle.formal_sums.proofs.Linear.{weighted_sum_agree}
use Rattle.formal_sums.proofs.Multiplying.{weighted_sum-product}
use Rattle.formal_sums.proofs.WeightedSums.{indicator_other, indicator_same, same_key-shift, weighted_sum_ext, weighted_sum_zero, weighted_sum_zero_mod}
use Rattle.formal_sums.specs.FormalSums.{FormalSum, IsPolynomial, Key, coefficient, indicator, product, shift, weighted_sum}
use Rattle.orders.proofs.KeyOrdering.{less_of_greater, not_itself}
use Rattle.orders.proofs.Positions.{pot_order}
use Rattle.orders.proofs.Weighted.{weighted_grevlex_order}
use Rattle.orders.specs.KeyOrders.{pot}
use Rattle.orders.specs.MonomialOrders.{reverse_lex}
use Rattle.orders.specs.WeightedOrders.{weighted_grevlex}
use Rattle.bases.proofs.Leading.{one_not_zero, positive}
use Rattle.bases.proofs.Normalizing.{HasLead, has_lead}
use Rattle.bases.specs.Leads.{IsLead}
use Rattle.bases.specs.Settings.{IsLawful, Setting}
use Rattle.sparse_poly.proofs.Bounding.{HasDegreeWithin_power, product_weight}
use Rattle.sparse_poly.proofs.Powering.{IsPolynomial_power}
use Rattle.sparse_poly.specs.Degrees.{HasDegreeWithin}
use Rattle.sparse_poly.specs.Powers.{constant, polynomial_power}
use Rattle.sparse_poly.specs.Stops.{OccursInPolynomial, PowersFit}

-- a polynomial has no coefficient at other positions
pub coefficient_elsewhere :
    {n : ℕ} (v : FormalSum n) → IsPolynomial v → (k : Key n) → 0 < k.0 → coefficient v k ≡ 0
coefficient_elsewhere [] h k lt = refl
coefficient_elsewhere (t ∷ v) h k lt =
    let z = coefficient_elsewhere v h.1 k lt in
    let d : indicator k t.0 ≡ 0 = indicator_other k t.0 (λ e. (let q : k.0 ≡ t.0.0 = ap (λ x. x.0) e in let at : t.0.0 ≡ 0 = h.0 in omega arith)) in
    rw (d, z) (omega arith)

weighted_sum-by :
    {n : ℕ} (f : Key n → ℕ) (c : ℕ) (v : FormalSum n) → weighted_sum (λ k. f k * c) v ≡ weighted_sum f v * c
weighted_sum-by f c [] = omega arith
weighted_sum-by f c (t ∷ v) = omega (arith, weighted_sum-by f c v)

module _ {n : ℕ} (S : Setting n) (lawful : IsLawful S) where
  -- k is the key of a at position 0, or below it there
  abbrev IsUpTo : Exponents n → Key n → Type 0
  IsUpTo a k = (k ≡ (0, a)) ⊎ ((k.0 ≡ 0) × (S.compare (0, k.1) (0, a) ≡ Less))

  -- each key has coefficient 0, or is up to the lead
  up_to_lead :
      (v : FormalSum n) (a : Exponents n)
      → IsPolynomial v → IsLead S v (0, a) → (k : Key n)
      → IsUpTo a k ⊎ IsCongruent S.modulus (coefficient v k) 0
  up_to_lead v a h lead k = by (eq-zero-or-pos k.0)
    where
      at : (o : Ordering) → k ≡ (0, k.1) → S.compare (0, a) (0, k.1) ≡ o → IsUpTo a k ⊎ IsCongruent S.modulus (coefficient v k) 0
      at Less e d = inr (lead.above k (ap (S.compare (0, a)) e ∙ d))
      at Equal e d = inl (inl (e ∙ sym (lawful.order.exact (0, a) (0, k.1) d)))
      at Greater e d = inl (inr (ap (λ x. x.0) e, less_of_greater lawful.order (0, a) (0, k.1) d))

      by : (k.0 ≡ 0) ⊎ (0 < k.0) → IsUpTo a k ⊎ IsCongruent S.modulus (coefficient v k) 0
      by (inl z) = at (S.compare (0, a) (0, k.1)) (ap (λ i. (i, k.1)) z) refl
      by (inr pos) = inr (IsCongruent_of S.modulus _ 0 (coefficient_elsewhere v h k pos))

  -- below one factor's key the product is below the products' key
  less_times :
      (a b : Exponents n) (x : Exponents n) (l : Key n)
      → S.compare (0, x) (0, a) ≡ Less → IsUpTo b l → S.compare (0, times x l.1) (0, times a b) ≡ Less
  less_times a b x l lt (inl e) =
      subst (λ y. S.compare (0, times x y) (0, times a b) ≡ Less) (sym (ap (λ k. k.1) e))
      (ap₂ (λ y z. S.compare (0, y) (0, z)) (times_comm x b) (times_comm a b) ∙ lawful.order.kept b (0, x) (0, a) ∙ lt)
  less_times a b x l lt (inr e) =
      lawful.order.total.trans (0, times x l.1) (0, times x b) (0, times a b)
      (lawful.order.kept x (0, l.1) (0, b) ∙ e.1)
      (ap₂ (λ y z. S.compare (0, y) (0, z)) (times_comm x b) (times_comm a b) ∙ lawful.order.kept b (0, x) (0, a) ∙ lt)

  up_to_product : (a b : Exponents n) (k l : Key n) → IsUpTo a k → IsUpTo b l → IsUpTo (times a b) (shift k.1 l)
  up_to_product a b k l (inl e) (inl d) = inl (ap₂ (λ x y. (x, y)) (ap (λ x. x.0) d) (ap₂ times (ap (λ x. x.1) e) (ap (λ x. x.1) d)))
  up_to_product a b k l (inl e) (inr d) =
      inr (d.0, subst (λ y. S.compare (0, times y l.1) (0, times a b) ≡ Less) (sym (ap (λ x. x.1) e)) (lawful.order.kept a (0, l.1) (0, b) ∙ d.1))
  up_to_product a b k l (inr e) d = inr (position d, less_times a b k.1 l e.1 d)
    where
      position : IsUpTo b l → l.0 ≡ 0
      position (inl q) = ap (λ x. x.0) q
      position (inr q) = q.0

  not_above : (a : Exponents n) (k : Key n) → IsUpTo a k → S.compare (0, a) k ≡ Less → ⊥
  not_above a k (inl e) lt = not_itself lawful.order (0, a) (ap (S.compare (0, a)) (sym e) ∙ lt)
  not_above a k (inr e) lt =
      not_itself lawful.order (0, a) (lawful.order.total.trans (0, a) (0, k.1) (0, a) (ap (S.compare (0, a)) (sym (ap (λ i. (i, k.1)) e.0)) ∙ lt) e.1)

  -- the lead of a product is the product of the leads
  pub IsLead_product :
      (u v : FormalSum n) (a b : Exponents n)
      → IsPolynomial u → IsPolynomial v → IsLead S u (0, a) → IsLead S v (0, b)
      → IsLead S (product u v) (0, times a b)
  IsLead_product u v a b hu hv lu lv = record { nonzero = nonzero; above = above }
    where
      above : (x : Key n) → S.compare (0, times a b) x ≡ Less → IsCongruent S.modulus (coefficient (product u v) x) 0
      above x lt = IsCongruent_trans (IsCongruent_of S.modulus _ _ (weighted_sum-product (indicator x) u v)) (weighted_sum_zero_mod (product_weight v x) u (λ k. outer k (up_to_lead u a hu lu k)))
        where
          inner :
              (k l : Key n)
              → IsUpTo a k → IsUpTo b l ⊎ IsCongruent S.modulus (coefficient v l) 0
              → (indicator x (shift k.1 l) ≡ 0) ⊎ IsCongruent S.modulus (coefficient v l) 0
          inner k l hk (inl hl) =
              inl (indicator_other x (shift k.1 l) (λ e. not_above (times a b) (shift k.1 l) (up_to_product a b k l hk hl) (ap (S.compare (0, times a b)) (sym e) ∙ lt)))
          inner k l hk (inr z) = inr z

          outer :
              (k : Key n)
              → IsUpTo a k ⊎ IsCongruent S.modulus (coefficient u k) 0
              → IsCongruent S.modulus (product_weight v x k) 0 ⊎ IsCongruent S.modulus (coefficient u k) 0
          outer k (inl hk) = inl (weighted_sum_zero _ v (λ l. inner k l hk (up_to_lead v b hv lv l)))
          outer k (inr z) = inr z

      at_lead : IsCongruent S.modulus (coefficient (product u v) (0, times a b)) (coefficient u (0, a) * coefficient v (0, b))
      at_lead =
          IsCongruent_trans (IsCongruent_of S.modulus _ _ (weighted_sum-product (indicator (0, times a b)) u v))
          (IsCongruent_trans (weighted_sum_agree (positive S lawful) (product_weight v (0, times a b)) (λ k. indicator (0, a) k * coefficient v (0, b)) u (λ k. outer k (up_to_lead u a hu lu k)))
          (IsCongruent_of S.modulus _ _ (weighted_sum-by (indicator (0, a)) (coefficient v (0, b)) u)))
        where
          inner :
              (k l : Key n)
              → S.compare (0, k.1) (0, a) ≡ Less → IsUpTo b l ⊎ IsCongruent S.modulus (coefficient v l) 0
              → (indicator (0, times a b) (shift k.1 l) ≡ 0) ⊎ IsCongruent S.modulus (coefficient v l) 0
          inner k l lt (inl hl) =
              inl (indicator_other (0, times a b) (shift k.1 l) (λ e. not_itself lawful.order (0, times a b) (ap (λ y. S.compare (0, y) (0, times a b)) (ap (λ y. y.1) e) ∙ less_times a b k.1 l lt hl)))
          inner k l lt (inr z) = inr z

          outer :
              (k : Key n)
              → IsUpTo a k ⊎ IsCongruent S.modulus (coefficient u k) 0
              → IsCongruent S.modulus (product_weight v (0, times a b) k) (indicator (0, a) k * coefficient v (0, b)) ⊎ IsCongruent S.modulus (coefficient u k) 0
          outer k (inl (inl e)) =
              let one : indicator (0, a) k ≡ 1 = indicator_same (0, a) k (sym e) in
              let w : product_weight v (0, times a b) k ≡ coefficient v (0, b) =
              weighted_sum_ext _ (indicator (0, b)) (λ l. ap (λ y. indicator (0, times a b) (shift y l)) (ap (λ y. y.1) e) ∙ ap (λ c. cond c 1 0) (same_key-shift a (0, b) l)) v in
              inl (IsCongruent_of S.modulus _ _ (w ∙ (rw one (omega arith))))
          outer k (inl (inr e)) =
              let none : indicator (0, a) k ≡ 0 = indicator_other (0, a) k (λ d. not_itself lawful.order (0, a) (ap (λ y. S.compare (0, y) (0, a)) (ap (λ y. y.1) d) ∙ e.1)) in
              inl (IsCongruent_trans (weighted_sum_zero _ v (λ l. inner k l e.1 (up_to_lead v b hv lv l))) (IsCongruent_of S.modulus 0 _ (rw none (omega arith))))
          outer k (inr z) = inr z

      nonzero : IsCongruent S.modulus (coefficient (product u v) (0, times a b)) 0 → ⊥
      nonzero z = go (IsCongruent_domain lawful.domain (coefficient u (0, a)) (coefficient v (0, b)) (IsCongruent_trans (IsCongruent_sym at_lead) z))
        where
          go : IsCongruent S.modulus (coefficient u (0, a)) 0 ⊎ IsCongruent S.modulus (coefficient v (0, b)) 0 → ⊥
          go (inl e) = lu.nonzero e
          go (inr e) = lv.nonzero e

  -- 1 has the lead 1
  IsLead_one : IsLead S (constant n 1) (0, unit n)
  IsLead_one = record {
    nonzero = λ z.
        let one : indicator (0, unit n) (0, unit n) ≡ 1 = indicator_same (0, unit n) (0, unit n) refl in
        one_not_zero S lawful (IsCongruent_trans (IsCongruent_of S.modulus 1 _ (rw one (omega arith))) z);
    above = λ k lt.
        let none : indicator k (0, unit n) ≡ 0 = indicator_other k (0, unit n) (λ e. not_itself lawful.order (0, unit n) (ap (S.compare (0, unit n)) (sym e) ∙ lt)) in
        IsCongruent_of S.modulus _ 0 (rw none (omega arith));
  }

  -- the lead of a power, whose degree is the exponent times that of the lead
  pub IsLead_power :
      (ws : List ℕ) (v : FormalSum n) (a : Exponents n)
      → IsPolynomial v → IsLead S v (0, a) → (k : ℕ)
      → (m : Exponents n) × (weighted_degree ws m ≡ k * weighted_degree ws a) × IsLead S (polynomial_power v k) (0, m)
  IsLead_power ws v a h lead zero = (unit n, weighted_degree-unit n ws ∙ omega arith, IsLead_one)
  IsLead_power ws v a h lead (suc k) =
      let before = IsLead_power ws v a h lead k in
      let d = before.1 in
      (times a before.0, weighted_degree-times ws a before.0 ∙ omega arith, IsLead_product v (polynomial_power v k) a before.0 h (IsPolynomial_power v k) lead before.2)

-- polynomials in n variables modulo p, by degree
abbrev by_degree : (n : ℕ) (ws : List ℕ) (p : ℕ) → Setting n
by_degree n ws p = record { modulus = p; weights = ws; rank = 1; compare = pot (weighted_grevlex ws) }

by_degree_lawful : {n p : ℕ} (ws : List ℕ) → IsDomain p → IsLawful (by_degree n ws p)
by_degree_lawful {n} ws domain = record { domain = domain; order = pot_order 1 (weighted_grevlex ws) (weighted_grevlex_order n ws) }

-- the lead has the greatest degree
lead_degree :
    {n p : ℕ} (ws : List ℕ) (v : FormalSum n) (a : Exponents n) → IsPolynomial v → IsLead (by_degree n ws p) v (0, a)
    → HasDegreeWithin ws p (weighted_degree ws a) v
lead_degree {n} {p} ws v a h lead = record { above = λ k lt. by k lt (eq-zero-or-pos k.0) }
  where
    by : (k : Key n) → weighted_degree ws a < weighted_degree ws k.1 → (k.0 ≡ 0) ⊎ (0 < k.0) → IsCongruent p (coefficient v k) 0
    by k lt (inl z) =
        lead.above k
        (rw z (ap (λ o. ordering_then o (reverse_lex a k.1)) (sym (nat_cmp_is (weighted_degree ws a) (weighted_degree ws k.1) Less lt))))
    by k lt (inr pos) = IsCongruent_of p _ 0 (coefficient_elsewhere v h k pos)

-- what occurs has a degree within the bound
pub Occurs_within :
    {n p d : ℕ} {ws : List ℕ} (v : FormalSum n) (m : Exponents n) → HasDegreeWithin ws p d v → OccursInPolynomial p v m → weighted_degree ws m ≤ d
Occurs_within {n} {p} {d} {ws} v m h o = by (cases_lt d (weighted_degree ws m))
  where
    by : (d < weighted_degree ws m) ⊎ (weighted_degree ws m ≤ d) → weighted_degree ws m ≤ d
    by (inl lt) = absurd (o (h.above (0, m) lt))
    by (inr le) = le

-- the monomials of two powers fit
abbrev pub BothFit : {n : ℕ} → List ℕ → ℕ → FormalSum n → ℕ → ℕ → Type 0
BothFit {n} ws p v i j = (a b : Exponents n) → OccursInPolynomial p (polynomial_power v i) a → OccursInPolynomial p (polynomial_power v j) b → weighted_degree ws a + weighted_degree ws b ≤ 65535

-- where those of two powers fit, those of all whose exponents sum to no more do
pub PowersFit_of :
    {n p : ℕ} (ws : List ℕ) → IsDomain p → (v : FormalSum n) (i j k : ℕ) → IsPolynomial v → i + j ≡ k → BothFit ws p v i j
    → PowersFit ws p v k
PowersFit_of {n} {p} ws domain v i j k h e fits = by (has_lead (by_degree n ws p) (by_degree_lawful ws domain) v)
  where
    within : (d : ℕ) → HasDegreeWithin ws p d v → k * d ≤ 65535 → PowersFit ws p v k
    within d bound small s t a b le oa ob =
        let left : weighted_degree ws a ≤ s * d = Occurs_within (polynomial_power v s) a (HasDegreeWithin_power v s bound) oa in
        let right : weighted_degree ws b ≤ t * d = Occurs_within (polynomial_power v t) b (HasDegreeWithin_power v t bound) ob in
        let most : (s + t) * d ≤ k * d = mul-le-mul_right d le in
        omega arith

    at_lead : (l : Key n) → IsLead (by_degree n ws p) v l → (l.0 ≡ 0) ⊎ (0 < l.0) → PowersFit ws p v k
    at_lead l lead (inl z) =
        let lead' : IsLead (by_degree n ws p) v (0, l.1) = subst (IsLead (by_degree n ws p) v) (ap (λ x. (x, l.1)) z) lead in
        let left = IsLead_power (by_degree n ws p) (by_degree_lawful ws domain) ws v l.1 h lead' i in
        let right = IsLead_power (by_degree n ws p) (by_degree_lawful ws domain) ws v l.1 h lead' j in
        let sum : weighted_degree ws left.0 + weighted_degree ws right.0 ≤ 65535 = fits left.0 right.0 left.2.nonzero right.2.nonzero in
        let dl : weighted_degree ws left.0 ≡ i * weighted_degree ws l.1 = left.1 in
        let dr : weighted_degree ws right.0 ≡ j * weighted_degree ws l.1 = right.1 in
        let all : (i + j) * weighted_degree ws l.1 ≡ k * weighted_degree ws l.1 = ap (λ x. x * weighted_degree ws l.1) e in
        within (weighted_degree ws l.1) (lead_degree ws v l.1 h lead') (omega arith)
    at_lead l lead (inr pos) = absurd (lead.nonzero (IsCongruent_of p _ 0 (coefficient_elsewhere v h l pos)))

    by : HasLead (by_degree n ws p) v → PowersFit ws p v k
    by (inl nothing) = within 0 (record { above = λ x lt. nothing.by_key x }) (omega arith)
    by (inr lead) = at_lead lead.0 lead.1 (eq-zero-or-pos lead.0.0)
