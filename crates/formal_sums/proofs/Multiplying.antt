-- Products of polynomials and vectors
use Rattle.std.proofs.Common.{[], ap, ap₂, arith, inl, inr, refl, sym, ℕ, ◌*◌, ◌+◌, ◌<◌, ◌∙◌, ◌∷◌, ◌≡◌, ◌⊎◌}
use Rattle.residues.proofs.Congruences.{IsCongruent_of, IsCongruent_trans}
use Rattle.residues.specs.Residues.{IsCongruent}
use Rattle.monomials.proofs.Monomials.{times_comm}
use Rattle.monomials.proofs.Sums.{sum_over_splittings-add, sum_over_splittings_ext, sum_over_splittings_none, sum_over_splittings_one}
use Rattle.monomials.specs.Exponents.{Exponents, times}
use Rattle.monomials.specs.Sums.{sum_over_splittings}
use Rattle.formal_sums.proofs.Sameness.{IsSame_weighted_sum}
use Rattle.formal_sums.proofs.WeightedSums.{indicator_other, indicator_same, key_cases, weighted_sum-append, weighted_sum-scale}
use Rattle.formal_sums.specs.FormalSums.{FormalSum, IsPolynomial, IsSame, Key, Term, coefficient, indicator, product, scale, shift, weighted_sum}

pub weighted_sum-product :
    {n : ℕ} (f : Key n → ℕ) (u v : FormalSum n)
    → weighted_sum f (product u v) ≡ weighted_sum (λ k. weighted_sum (λ l. f (shift k.1 l)) v) u
weighted_sum-product f [] v = refl
weighted_sum-product f (t ∷ u) v = weighted_sum-append f (scale t.1 t.0.1 v) (product u v) ∙ ap₂ ◌+◌ (weighted_sum-scale f t.1 t.0.1 v) (weighted_sum-product f u v)

weighted_sum-add :
    {n : ℕ} (f h : Key n → ℕ) (v : FormalSum n)
    → weighted_sum (λ k. f k + h k) v ≡ weighted_sum f v + weighted_sum h v
weighted_sum-add f h [] = refl
weighted_sum-add f h (t ∷ v) = omega (arith, weighted_sum-add f h v)

weighted_sum-times :
    {n : ℕ} (c : ℕ) (f : Key n → ℕ) (v : FormalSum n) → weighted_sum (λ k. c * f k) v ≡ c * weighted_sum f v
weighted_sum-times c f [] = omega arith
weighted_sum-times c f (t ∷ v) = omega (arith, weighted_sum-times c f v)

weighted_sum-none : {n : ℕ} (v : FormalSum n) → weighted_sum (λ k. 0) v ≡ 0
weighted_sum-none [] = refl
weighted_sum-none (t ∷ v) = omega (arith, weighted_sum-none v)

-- two sums in either order
pub weighted_sum_swap :
    {n : ℕ} (f : Key n → Key n → ℕ) (u v : FormalSum n)
    → weighted_sum (λ k. weighted_sum (λ l. f k l) v) u ≡ weighted_sum (λ l. weighted_sum (λ k. f k l) u) v
weighted_sum_swap f [] v = sym (weighted_sum-none v)
weighted_sum_swap f (t ∷ u) v =
    ap₂ ◌+◌ (sym (weighted_sum-times t.1 (λ l. f t.0 l) v)) (weighted_sum_swap f u v)
    ∙ sym (weighted_sum-add (λ l. t.1 * f t.0 l) (λ l. weighted_sum (λ k. f k l) u) v)

-- weights that agree at position 0
weighted_sum_ext_at :
    {n : ℕ} (f h : Key n → ℕ) → ((m : Exponents n) → f (0, m) ≡ h (0, m)) → (v : FormalSum n) → IsPolynomial v
    → weighted_sum f v ≡ weighted_sum h v
weighted_sum_ext_at f h e [] q = refl
weighted_sum_ext_at {n} f h e (t ∷ v) q =
    let d : t.0 ≡ (0, t.0.1) = ap (λ i. (i, t.0.1)) q.0 in
    ap₂ ◌+◌ (ap (λ x. t.1 * x) (ap f d ∙ e t.0.1 ∙ ap h (sym d))) (weighted_sum_ext_at f h e v q.1)

-- products of polynomials commute
pub product_comm :
    {n : ℕ} (p : ℕ) (u v : FormalSum n) → IsPolynomial u → IsPolynomial v → IsSame p (product u v) (product v u)
product_comm {n} p u v hu hv = record { by_key = at }
  where
    one :
        (x : Key n)
        → weighted_sum (λ k. weighted_sum (λ l. indicator x (shift k.1 l)) v) u ≡ weighted_sum (λ k. weighted_sum (λ l. indicator x (shift l.1 k)) v) u
    one x =
        weighted_sum_ext_at _ _ (λ m. weighted_sum_ext_at (λ l. indicator x (shift m l)) (λ l. indicator x (shift l.1 (0, m))) (λ m'. ap (λ e. indicator x (0, e)) (times_comm m m')) v hv) u hu

    at : (x : Key n) → IsCongruent p (coefficient (product u v) x) (coefficient (product v u) x)
    at x = IsCongruent_of p _ _ (weighted_sum-product (indicator x) u v ∙ one x ∙ weighted_sum_swap (λ k l. indicator x (shift l.1 k)) u v ∙ sym (weighted_sum-product (indicator x) v u))

-- the product depends on the first factor's coefficients alone
pub IsSame_product : {n p : ℕ} → 0 < p → (u w v : FormalSum n) → IsSame p u w → IsSame p (product u v) (product w v)
IsSame_product {n} {p} pos u w v h = record {
  by_key = λ x. IsCongruent_trans (IsCongruent_of p _ _ (weighted_sum-product (indicator x) u v)) (IsCongruent_trans (IsSame_weighted_sum pos _ u w h) (IsCongruent_of p _ _ (sym (weighted_sum-product (indicator x) w v))));
}

-- a term of u against a term of v, over all splittings of x
one_term :
    {n : ℕ} (x : Key n) (t s : Term n) → t.0.0 ≡ 0
    → sum_over_splittings x.1 (λ a b. t.1 * indicator (0, a) t.0 * (s.1 * indicator (x.0, b) s.0)) ≡ t.1 * (s.1 * indicator x (shift t.0.1 s.0))
one_term {n} x t s z = go (key_cases x (shift t.0.1 s.0))
  where
    t_is : t.0 ≡ (0, t.0.1)
    t_is = ap (λ i. (i, t.0.1)) z

    go :
        (x ≡ shift t.0.1 s.0) ⊎ (x ≡ shift t.0.1 s.0 → ⊥)
        → sum_over_splittings x.1 (λ a b. t.1 * indicator (0, a) t.0 * (s.1 * indicator (x.0, b) s.0)) ≡ t.1 * (s.1 * indicator x (shift t.0.1 s.0))
    go (inl e) =
        let one : indicator x (shift t.0.1 s.0) ≡ 1 = indicator_same x (shift t.0.1 s.0) e in
        let l : indicator (0, t.0.1) t.0 ≡ 1 = indicator_same (0, t.0.1) t.0 (sym t_is) in
        let r : indicator (x.0, s.0.1) s.0 ≡ 1 = indicator_same (x.0, s.0.1) s.0 (ap (λ k. (k.0, s.0.1)) e) in
        sum_over_splittings_one x.1 t.0.1 s.0.1 _ (sym (ap (λ k. k.1) e)) (λ a b ne. (let w : indicator (0, a) t.0 ≡ 0 = indicator_other (0, a) t.0 (λ q. ne (ap (λ k. k.1) q)) in rw w (omega arith)))
        ∙ (rw (one, l, r) (omega arith))
    go (inr ne) =
        let none : indicator x (shift t.0.1 s.0) ≡ 0 = indicator_other x (shift t.0.1 s.0) ne in
        sum_over_splittings_none x.1 _ (λ a b q. at a b q (key_cases (0, a) t.0) (key_cases (x.0, b) s.0))
        ∙ (rw none (omega arith))
      where
        at :
            (a b : Exponents n)
            → times a b ≡ x.1 → ((0, a) ≡ t.0) ⊎ ((0, a) ≡ t.0 → ⊥) → ((x.0, b) ≡ s.0) ⊎ ((x.0, b) ≡ s.0 → ⊥)
            → t.1 * indicator (0, a) t.0 * (s.1 * indicator (x.0, b) s.0) ≡ 0
        at a b q (inl d) (inl d') = absurd (ne (ap₂ (λ i m. (i, m)) (ap (λ k. k.0) d') (sym q ∙ ap₂ times (ap (λ k. k.1) d) (ap (λ k. k.1) d'))))
        at a b q (inl d) (inr d') = let w : indicator (x.0, b) s.0 ≡ 0 = indicator_other (x.0, b) s.0 d' in rw w (omega arith)
        at a b q (inr d) d' = let w : indicator (0, a) t.0 ≡ 0 = indicator_other (0, a) t.0 d in rw w (omega arith)

one_row :
    {n : ℕ} (x : Key n) (t : Term n) (v : FormalSum n) → t.0.0 ≡ 0
    → sum_over_splittings x.1 (λ a b. t.1 * indicator (0, a) t.0 * coefficient v (x.0, b)) ≡ t.1 * weighted_sum (λ l. indicator x (shift t.0.1 l)) v
one_row x t [] z = sum_over_splittings_none x.1 _ (λ a b q. omega arith) ∙ omega arith
one_row x t (s ∷ v) z =
    sum_over_splittings_ext x.1 _ (λ a b. t.1 * indicator (0, a) t.0 * (s.1 * indicator (x.0, b) s.0) + t.1 * indicator (0, a) t.0 * coefficient v (x.0, b)) (λ a b. omega arith)
    ∙ sum_over_splittings-add x.1 _ _
    ∙ ap₂ ◌+◌ (one_term x t s z) (one_row x t v z)
    ∙ omega arith

-- the coefficient of a product is the sum over all splittings of the products of coefficients
pub coefficient-product :
    {n : ℕ} (u v : FormalSum n) (x : Key n) → IsPolynomial u
    → coefficient (product u v) x ≡ sum_over_splittings x.1 (λ a b. coefficient u (0, a) * coefficient v (x.0, b))
coefficient-product {n} u v x h = weighted_sum-product (indicator x) u v ∙ sym (rows u h)
  where
    rows :
        (u : FormalSum n)
        → IsPolynomial u
        → sum_over_splittings x.1 (λ a b. coefficient u (0, a) * coefficient v (x.0, b)) ≡ weighted_sum (λ k. weighted_sum (λ l. indicator x (shift k.1 l)) v) u
    rows [] h = sum_over_splittings_none x.1 _ (λ a b q. omega arith)
    rows (t ∷ u) h =
        sum_over_splittings_ext x.1 _ (λ a b. t.1 * indicator (0, a) t.0 * coefficient v (x.0, b) + coefficient u (0, a) * coefficient v (x.0, b)) (λ a b. omega arith)
        ∙ sum_over_splittings-add x.1 _ _
        ∙ ap₂ ◌+◌ (one_row x t v h.0) (rows u h.1)
