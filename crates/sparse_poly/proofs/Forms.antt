-- Binary forms, and the binomial theorem
use Rattle.std.proofs.Common.{[], ap, append-nil, arith, refl, subst, suc, sym, zero, ℕ, ◌++◌, ◌+◌, ◌*◌, ◌<◌, ◌∙◌, ◌∷◌, ◌≡◌}
use Rattle.std.proofs.lemmas.List.Concat.{flat_map-append}
use Rattle.residues.proofs.Congruences.{IsCongruent_multiply, IsCongruent_of, IsCongruent_refl, IsCongruent_trans}
use Rattle.residues.specs.Residues.{IsCongruent, IsDomain}
use Rattle.monomials.proofs.Monomials.{times_comm}
use Rattle.monomials.specs.Exponents.{times, unit}
use Rattle.formal_sums.proofs.Combining.{scale-one}
use Rattle.formal_sums.proofs.Multiplying.{IsSame_product, product_comm}
use Rattle.formal_sums.proofs.Sameness.{IsSame_append, IsSame_of, IsSame_refl, IsSame_sym, IsSame_trans, coefficient-scale_unit, scale-append, scale-scale}
use Rattle.formal_sums.proofs.WeightedSums.{coefficient-append}
use Rattle.formal_sums.specs.FormalSums.{FormalSum, IsPolynomial, IsSame, coefficient, product, scale}
use Rattle.sparse_poly.proofs.Choosing.{choose-all, choose-none, choose_above, choose_prime}
use Rattle.sparse_poly.proofs.Powering.{IsSame_product_second, product_assoc}
use Rattle.sparse_poly.specs.Binomials.{binary_form, choose}
use Rattle.sparse_poly.specs.Powers.{constant, polynomial_power}

-- 0 times anything is nothing
pub scale_nothing : {n : ℕ} (p c : ℕ) (v : FormalSum n) → IsCongruent p c 0 → IsSame p (scale c (unit n) v) []
scale_nothing p c v z = record {
  by_key = λ k.
      IsCongruent_trans (IsCongruent_of p _ _ (coefficient-scale_unit c v k))
      (IsCongruent_trans (IsCongruent_multiply z (IsCongruent_refl p (coefficient v k))) (IsCongruent_of p _ _ (omega arith)));
}

-- multiples by congruent numbers are the same
pub scale_congruent : {n : ℕ} (p c d : ℕ) (v : FormalSum n) → IsCongruent p c d → IsSame p (scale c (unit n) v) (scale d (unit n) v)
scale_congruent p c d v e = record {
  by_key = λ k.
      IsCongruent_trans (IsCongruent_of p _ _ (coefficient-scale_unit c v k))
      (IsCongruent_trans (IsCongruent_multiply e (IsCongruent_refl p (coefficient v k))) (IsCongruent_of p _ _ (sym (coefficient-scale_unit d v k))));
}

-- the multiple by a sum
pub scale_sum : {n : ℕ} (p c d : ℕ) (v : FormalSum n) → IsSame p (scale (c + d) (unit n) v) (scale c (unit n) v ++ scale d (unit n) v)
scale_sum {n} p c d v = record { by_key = λ k. IsCongruent_of p _ _ (at k) }
  where
    at : (k : _) → coefficient (scale (c + d) (unit n) v) k ≡ coefficient (scale c (unit n) v ++ scale d (unit n) v) k
    at k =
        let whole = coefficient-scale_unit (c + d) v k in
        let left = coefficient-scale_unit c v k in
        let right = coefficient-scale_unit d v k in
        let both = coefficient-append (scale c (unit n) v) (scale d (unit n) v) k in
        let split : (c + d) * coefficient v k ≡ c * coefficient v k + d * coefficient v k = omega arith in
        omega arith

-- sums of four, in another order
pub IsSame_crossed : {n : ℕ} (p : ℕ) (a b c d : FormalSum n) → IsSame p ((a ++ b) ++ (c ++ d)) ((a ++ c) ++ (b ++ d))
IsSame_crossed p a b c d = record { by_key = λ k. IsCongruent_of p _ _ (at k) }
  where
    at : (k : _) → coefficient ((a ++ b) ++ (c ++ d)) k ≡ coefficient ((a ++ c) ++ (b ++ d)) k
    at k =
        let l = coefficient-append (a ++ b) (c ++ d) k in
        let l1 = coefficient-append a b k in
        let l2 = coefficient-append c d k in
        let r = coefficient-append (a ++ c) (b ++ d) k in
        let r1 = coefficient-append a c k in
        let r2 = coefficient-append b d k in
        omega arith

pub IsSame_swapped : {n : ℕ} (p : ℕ) (a b : FormalSum n) → IsSame p (a ++ b) (b ++ a)
IsSame_swapped p a b = record { by_key = λ k. IsCongruent_of p _ _ (at k) }
  where
    at : (k : _) → coefficient (a ++ b) k ≡ coefficient (b ++ a) k
    at k =
        let l = coefficient-append a b k in
        let r = coefficient-append b a k in
        omega arith

-- products distribute over sums
pub product_append_second : {n p : ℕ} (u x y : FormalSum n) → IsSame p (product u (x ++ y)) (product u x ++ product u y)
product_append_second {n} {p} [] x y = IsSame_refl p []
product_append_second {n} {p} (t ∷ u) x y =
    IsSame_trans
    (IsSame_append (IsSame_of p _ _ (scale-append t.1 t.0.1 x y)) (product_append_second u x y))
    (IsSame_crossed p (scale t.1 t.0.1 x) (scale t.1 t.0.1 y) (product u x) (product u y))

pub product_append_first : {n : ℕ} (u v x : FormalSum n) → product (u ++ v) x ≡ product u x ++ product v x
product_append_first u v x = flat_map-append (λ t. scale t.1 t.0.1 x) u v

pub product_nothing : {n : ℕ} (u : FormalSum n) → product u [] ≡ []
product_nothing [] = refl
product_nothing (t ∷ u) = product_nothing u

-- numbers go out of a second factor
pub product_scaled_second : {n : ℕ} (c : ℕ) (u v : FormalSum n) → product u (scale c (unit n) v) ≡ scale c (unit n) (product u v)
product_scaled_second c [] v = refl
product_scaled_second {n} c (t ∷ u) v =
    let e : scale t.1 t.0.1 (scale c (unit n) v) ≡ scale c (unit n) (scale t.1 t.0.1 v) =
    scale-scale t.1 c t.0.1 (unit n) v ∙ swap ∙ sym (scale-scale c t.1 (unit n) t.0.1 v)
    in
    let f = product_scaled_second c u v in
    rw (e, f) (sym (scale-append c (unit n) (scale t.1 t.0.1 v) (product u v)))
  where
    swap : scale (t.1 * c) (times t.0.1 (unit n)) v ≡ scale (c * t.1) (times (unit n) t.0.1) v
    swap =
        let e : t.1 * c ≡ c * t.1 = omega arith in
        ap (λ x. scale x (times t.0.1 (unit n)) v) e ∙ ap (λ m. scale (c * t.1) m v) (times_comm t.0.1 (unit n))

-- factors in front are exchanged
pub product_exchange : {n p : ℕ} → 0 < p → (u v w : FormalSum n) → IsPolynomial u → IsPolynomial v → IsSame p (product u (product v w)) (product v (product u w))
product_exchange {n} {p} pos u v w hu hv =
    IsSame_trans (IsSame_sym (product_assoc p u v w))
    (IsSame_trans (IsSame_product pos (product u v) (product v u) w (product_comm p u v hu hv)) (product_assoc p v u w))

-- the coefficients with a 0 in front
abbrev pub moved : (ℕ → ℕ) → ℕ → ℕ
moved c zero = 0
moved c (suc i) = c i

module _ {n p : ℕ} (pos : 0 < p) (u v : FormalSum n) (hu : IsPolynomial u) (hv : IsPolynomial v) where
  -- forms with the same coefficients
  pub form_same : (c d : ℕ → ℕ) (k : ℕ) → ((i : ℕ) → c i ≡ d i) → IsSame p (binary_form c u v k) (binary_form d u v k)
  form_same c d zero e = IsSame_refl p []
  form_same c d (suc k) e =
      IsSame_append (IsSame_of p _ _ (ap (λ x. scale x (unit n) (polynomial_power u k)) (e 0)))
      (IsSame_product_second pos v _ _ (form_same (λ i. c (suc i)) (λ i. d (suc i)) k (λ i. e (suc i))))

  -- coefficients add up
  pub form_sum : (c d : ℕ → ℕ) (k : ℕ) → IsSame p (binary_form (λ i. c i + d i) u v k) (binary_form c u v k ++ binary_form d u v k)
  form_sum c d zero = IsSame_refl p []
  form_sum c d (suc k) =
      let c' : ℕ → ℕ = λ i. c (suc i) in
      let d' : ℕ → ℕ = λ i. d (suc i) in
      IsSame_trans
      (IsSame_append (scale_sum p (c 0) (d 0) (polynomial_power u k))
      (IsSame_trans (IsSame_product_second pos v _ _ (form_sum c' d' k)) (product_append_second v (binary_form c' u v k) (binary_form d' u v k))))
      (IsSame_crossed p (scale (c 0) (unit n) (polynomial_power u k)) (scale (d 0) (unit n) (polynomial_power u k)) (product v (binary_form c' u v k)) (product v (binary_form d' u v k)))

  -- u times a form has one more coefficient, 0, behind
  pub form_first : (c : ℕ → ℕ) (k : ℕ) → c k ≡ 0 → IsSame p (product u (binary_form c u v k)) (binary_form c u v (suc k))
  form_first c zero z =
      IsSame_trans (IsSame_of p _ _ (product_nothing u))
      (IsSame_append (IsSame_sym (scale_nothing p (c 0) (polynomial_power u 0) (IsCongruent_of p _ _ z))) (IsSame_of p [] _ (sym (product_nothing v))))
  form_first c (suc k) z =
      let c' : ℕ → ℕ = λ i. c (suc i) in
      IsSame_trans (product_append_second u (scale (c 0) (unit n) (polynomial_power u k)) (product v (binary_form c' u v k)))
      (IsSame_append (IsSame_of p _ _ (product_scaled_second (c 0) u (polynomial_power u k)))
      (IsSame_trans (product_exchange pos u v (binary_form c' u v k) hu hv) (IsSame_product_second pos v _ _ (form_first c' k z))))

  -- the binomial theorem
  pub binomial_theorem : (k : ℕ) → IsSame p (polynomial_power (u ++ v) k) (binary_form (choose k) u v (suc k))
  binomial_theorem zero =
      IsSame_trans (IsSame_of p _ _ (sym (append-nil (constant n 1))))
      (IsSame_append (IsSame_of p _ _ (sym (scale-one (constant n 1)))) (IsSame_of p [] _ (sym (product_nothing v))))
  binomial_theorem (suc k) =
      IsSame_trans (IsSame_product_second pos (u ++ v) _ _ (binomial_theorem k))
      (IsSame_trans (IsSame_of p _ _ (product_append_first u v (binary_form (choose k) u v (suc k))))
      (IsSame_trans (IsSame_append (form_first (choose k) (suc k) (choose_above k (suc k) (omega arith))) second)
      (IsSame_trans (IsSame_sym (form_sum (choose k) (moved (choose k)) (suc (suc k)))) (form_same (λ i. choose k i + moved (choose k) i) (choose (suc k)) (suc (suc k)) pascal))))
    where
      second : IsSame p (product v (binary_form (choose k) u v (suc k))) (binary_form (moved (choose k)) u v (suc (suc k)))
      second = IsSame_append (IsSame_sym (scale_nothing p 0 (polynomial_power u (suc k)) (IsCongruent_refl p 0))) (IsSame_refl p (product v (binary_form (choose k) u v (suc k))))

      pascal : (i : ℕ) → choose k i + moved (choose k) i ≡ choose (suc k) i
      pascal zero = let e : choose k 0 ≡ 1 = choose-none k in omega arith
      pascal (suc i) = omega arith

  -- with all coefficients but the last 0
  pub form_last : (c : ℕ → ℕ) (k : ℕ) → ((i : ℕ) → i < k → IsCongruent p (c i) 0) → IsSame p (binary_form c u v (suc k)) (scale (c k) (unit n) (polynomial_power v k))
  form_last c zero z =
      IsSame_trans (IsSame_append (IsSame_refl p (scale (c 0) (unit n) (constant n 1))) (IsSame_of p _ _ (product_nothing v))) (IsSame_of p _ _ (append-nil _))
  form_last c (suc k) z =
      IsSame_trans (IsSame_append (scale_nothing p (c 0) (polynomial_power u (suc k)) (z 0 (omega arith)))
      (IsSame_product_second pos v _ _ (form_last (λ i. c (suc i)) k (λ i lt. z (suc i) (omega arith)))))
      (IsSame_of p _ _ (product_scaled_second (c (suc k)) v (polynomial_power v k)))

  -- modulo a prime p the power p of a sum is the sum of the powers p
  pub frobenius_sum : IsDomain p → IsSame p (polynomial_power (u ++ v) p) (polynomial_power u p ++ polynomial_power v p)
  frobenius_sum d = by p refl
    where
      by : (q : ℕ) → p ≡ q → IsSame p (polynomial_power (u ++ v) q) (polynomial_power u q ++ polynomial_power v q)
      by zero e = absurd (omega arith)
      by (suc q) e =
          let coefficient_is : choose (suc q) (suc q) ≡ 1 = choose-all (suc q) in
          let first : choose (suc q) 0 ≡ 1 = choose-none (suc q) in
          IsSame_trans (binomial_theorem (suc q))
          (IsSame_append (IsSame_of p _ _ (ap (λ c. scale c (unit n) (polynomial_power u (suc q))) first ∙ scale-one (polynomial_power u (suc q))))
          (IsSame_product_second pos v _ _
          (IsSame_trans (form_last (λ i. choose (suc q) (suc i)) q (λ i lt. subst (λ x. IsCongruent p (choose x (suc i)) 0) e (choose_prime p (suc i) d (omega arith) (omega arith))))
          (IsSame_of p _ _ (ap (λ c. scale c (unit n) (polynomial_power v q)) coefficient_is ∙ scale-one (polynomial_power v q))))))
