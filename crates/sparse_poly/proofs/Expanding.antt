-- The binomial theorem, term by term; and powers of powers
use Rattle.std.proofs.Common.{[], ap, append-nil, append_assoc, arith, refl, subst, suc, sym, zero, ℕ, ◌++◌, ◌+◌, ◌*◌, ◌<◌, ◌^◌, ◌∙◌, ◌∷◌, ◌≡◌}
use Rattle.monomials.specs.Exponents.{Exponents, times, unit}
use Rattle.monomials.proofs.Monomials.{times-unit}
use Rattle.residues.proofs.Congruences.{IsCongruent_add, IsCongruent_multiply, IsCongruent_refl}
use Rattle.residues.specs.Residues.{IsCongruent}
use Rattle.formal_sums.proofs.Multiplying.{product_comm}
use Rattle.formal_sums.proofs.Sameness.{IsSame_append, IsSame_of, IsSame_refl, IsSame_scale, IsSame_sym, IsSame_trans}
use Rattle.formal_sums.specs.FormalSums.{FormalSum, IsPolynomial, IsSame, product, scale}
use Rattle.sparse_poly.proofs.Forms.{binomial_theorem, form_same, product_append_second, product_exchange, product_nothing, product_scaled_second}
use Rattle.sparse_poly.proofs.Frobenius.{power_term}
use Rattle.sparse_poly.proofs.Powering.{IsPolynomial_power, IsSame_product_second, power_add, product_assoc, product_one}
use Rattle.sparse_poly.specs.Binomials.{IsExpanding, binary_form, choose}
use Rattle.sparse_poly.specs.Powers.{constant, polynomial_power}
use Rattle.sparse_poly.specs.TermPowers.{monomial_power}

module _ {n p : ℕ} (pos : 0 < p) (u v : FormalSum n) (hu : IsPolynomial u) (hv : IsPolynomial v) (k : ℕ) where
  pub expanding_begins : IsExpanding p k 0 u v []
  expanding_begins = record { sums = at }
    where
      at : (j : ℕ) → 0 + j ≡ k + 1 → IsSame p (product (polynomial_power v 0) (binary_form (λ l. choose k (0 + l)) u v j)) (polynomial_power (u ++ v) k)
      at j e =
          let q : suc k ≡ j = omega arith in
          let same : (l : ℕ) → choose k (0 + l) ≡ choose k l = λ l. ap (choose k) (omega arith) in
          IsSame_trans (IsSame_of p _ _ (product_one (binary_form (λ l. choose k (0 + l)) u v j)))
          (IsSame_trans (form_same pos u v hu hv (λ l. choose k (0 + l)) (choose k) j same)
          (subst (λ l. IsSame p (binary_form (choose k) u v l) (polynomial_power (u ++ v) k)) q (IsSame_sym (binomial_theorem pos u v hu hv k))))

  -- one term more
  pub expanding_goes_on :
      (i d : ℕ) (done term : FormalSum n) → i + d ≡ k → IsExpanding p k i u v done
      → IsSame p term (scale (choose k i) (unit n) (product (polynomial_power u d) (polynomial_power v i)))
      → IsExpanding p k (i + 1) u v (done ++ term)
  expanding_goes_on i d done term e h same = record { sums = at }
    where
      rest : ℕ → FormalSum n
      rest j = binary_form (λ l. choose k (i + suc l)) u v j

      one : (j : ℕ) → d ≡ j → IsSame p term (product (polynomial_power v i) (scale (choose k (i + 0)) (unit n) (polynomial_power u j)))
      one j q =
          let same_choice : choose k i ≡ choose k (i + 0) = ap (choose k) (omega arith) in
          IsSame_trans same
          (IsSame_trans (IsSame_scale pos (choose k i) (unit n) (product_comm p (polynomial_power u d) (polynomial_power v i) (IsPolynomial_power u d) (IsPolynomial_power v i)))
          (IsSame_of p _ _ (ap (λ x. scale x (unit n) (product (polynomial_power v i) (polynomial_power u d))) same_choice ∙ sym (product_scaled_second (choose k (i + 0)) (polynomial_power v i) (polynomial_power u d)) ∙ ap (λ x. product (polynomial_power v i) (scale (choose k (i + 0)) (unit n) (polynomial_power u x))) q)))

      later : (j : ℕ) → IsSame p (product (polynomial_power v (i + 1)) (binary_form (λ l. choose k (i + 1 + l)) u v j)) (product (polynomial_power v i) (product v (rest j)))
      later j =
          let next : i + 1 ≡ suc i = omega arith in
          let same_choice : (l : ℕ) → choose k (i + 1 + l) ≡ choose k (i + suc l) = λ l. ap (choose k) (omega arith) in
          IsSame_trans (IsSame_product_second pos (polynomial_power v (i + 1)) _ _ (form_same pos u v hu hv (λ l. choose k (i + 1 + l)) (λ l. choose k (i + suc l)) j same_choice))
          (IsSame_trans (IsSame_of p _ _ (ap (λ x. product (polynomial_power v x) (rest j)) next))
          (IsSame_trans (product_assoc p v (polynomial_power v i) (rest j)) (product_exchange pos v (polynomial_power v i) (rest j) hv (IsPolynomial_power v i))))

      at : (j : ℕ) → i + 1 + j ≡ k + 1 → IsSame p ((done ++ term) ++ product (polynomial_power v (i + 1)) (binary_form (λ l. choose k (i + 1 + l)) u v j)) (polynomial_power (u ++ v) k)
      at j q =
          let here : d ≡ j = omega arith in
          let before : i + suc j ≡ k + 1 = omega arith in
          IsSame_trans (IsSame_of p _ _ (append_assoc done term _))
          (IsSame_trans (IsSame_append (IsSame_refl p done)
          (IsSame_trans (IsSame_append (one j here) (later j))
          (IsSame_sym (product_append_second (polynomial_power v i) (scale (choose k (i + 0)) (unit n) (polynomial_power u j)) (product v (rest j))))))
          (h.sums (suc j) before))

  pub expanding_ends : (i : ℕ) (done : FormalSum n) → i ≡ k + 1 → IsExpanding p k i u v done → IsSame p done (polynomial_power (u ++ v) k)
  expanding_ends i done e h =
      let q : i + 0 ≡ k + 1 = omega arith in
      IsSame_trans (IsSame_of p _ _ (sym (ap (λ x. done ++ x) (product_nothing (polynomial_power v i)) ∙ append-nil done))) (h.sums 0 q)

-- the term c a^i b^j
pub mixed_product :
    {n : ℕ} (p c i j x y : ℕ) (a b m : Exponents n) (r : ℕ)
    → m ≡ times (monomial_power i a) (monomial_power j b) → IsCongruent p r (c * (x ^ i * y ^ j))
    → IsSame p (((0, m), r) ∷ []) (scale c (unit n) (product (polynomial_power (((0, a), x) ∷ []) i) (polynomial_power (((0, b), y) ∷ []) j)))
mixed_product {n} p c i j x y a b m r e h =
    let left = power_term a x i in
    let right = power_term b y j in
    rw (left, right, e)
    (IsSame_trans
    (record { by_key = λ k. IsCongruent_add (IsCongruent_multiply h (IsCongruent_refl p _)) (IsCongruent_refl p 0) })
    (IsSame_of p _ _ (ap (λ l. ((0, l), c * (x ^ i * y ^ j)) ∷ []) (sym (times-unit (times (monomial_power i a) (monomial_power j b)))))))

-- powers of powers
pub power_power : {n p : ℕ} → 0 < p → (v : FormalSum n) (i j k : ℕ) → k ≡ i * j → IsSame p (polynomial_power (polynomial_power v i) j) (polynomial_power v k)
power_power {n} {p} pos v i zero k e =
    let z : 0 ≡ k = omega arith in
    IsSame_of p (constant n 1) (polynomial_power v k) (ap (polynomial_power v) z)
power_power {n} {p} pos v i (suc j) k e =
    let q : i + i * j ≡ k = omega arith in
    IsSame_trans (IsSame_product_second pos (polynomial_power v i) _ _ (power_power pos v i j (i * j) refl)) (IsSame_sym (power_add pos v i (i * j) k q))
