-- What is left of a vector when the products of quotients are taken away
use Rattle.std.proofs.Common.{List, [], ap, ap₂, arith, get_or, map, refl, sym, ℕ, ◌%◌, ◌*◌, ◌++◌, ◌+◌, ◌-◌, ◌<◌, ◌∙◌, ◌∷◌, ◌≡◌}
use Rattle.std.proofs.Math.Nat.{mod_self, zero-mod}
use Rattle.residues.proofs.Congruences.{IsCongruent_add, IsCongruent_mod, IsCongruent_of, IsCongruent_of_zero, IsCongruent_refl, IsCongruent_sym, IsCongruent_trans}
use Rattle.residues.specs.Residues.{IsCongruent}
use Rattle.monomials.specs.Exponents.{exponents_of}
use Rattle.formal_sums.proofs.Combining.{combination-append}
use Rattle.formal_sums.proofs.Sameness.{IsSame_append, IsSame_of, IsSame_refl, IsSame_trans}
use Rattle.formal_sums.proofs.WeightedSums.{coefficient-append, weighted_sum-scale}
use Rattle.formal_sums.specs.Combinations.{combination}
use Rattle.formal_sums.specs.FormalSums.{Each, FormalSum, IsSame, Key, coefficient, indicator, scale, shift, weighted_sum}
use Rattle.vector_division.specs.Reductions.{cofactors_of, unscaled}
use Rattle.vector_division.specs.declared.reduction.ScaledProduct.{ScaledProduct}
use Rattle.s_vectors.specs.Divided.{negated}

-- c and -c
opposite : (p c : ℕ) → c < p → IsCongruent p ((p - c) % p + c) 0
opposite p c h =
    IsCongruent_trans (IsCongruent_add (IsCongruent_mod p (p - c)) (IsCongruent_refl p c))
    (IsCongruent_trans (IsCongruent_of p ((p - c) + c) p (omega arith)) (record { same = mod_self p ∙ sym (zero-mod p) }))

pub negated_steps : (p : ℕ) (qs : List ScaledProduct) → map unscaled (map (negated p) qs) ≡ map unscaled qs
negated_steps p [] = refl
negated_steps p (q ∷ qs) = ap (λ l. unscaled q ∷ l) (negated_steps p qs)

pub cofactors-append : (n : ℕ) (xs ys : List ScaledProduct) → cofactors_of n (xs ++ ys) ≡ cofactors_of n xs ++ cofactors_of n ys
cofactors-append n [] ys = refl
cofactors-append n (x ∷ xs) ys = ap (λ l. ((x.index, exponents_of n x.monomial.exponents), x.residue) ∷ l) (cofactors-append n xs ys)

module _ (n p : ℕ) (G : List (FormalSum n)) where
  -- the products of -c for c are the opposite
  negated_cancels :
      (qs : List ScaledProduct) (k : Key n)
      → Each (λ q. q.residue < p) qs
      → IsCongruent p (coefficient (combination G (cofactors_of n (map (negated p) qs))) k + coefficient (combination G (cofactors_of n qs)) k) 0
  negated_cancels [] k h = IsCongruent_refl p 0
  negated_cancels (q ∷ qs) k h =
      let g : FormalSum n = get_or G q.index [] in
      let m = exponents_of n q.monomial.exponents in
      let w : ℕ = weighted_sum (λ l. indicator k (shift m l)) g in
      let d : ℕ = (p - q.residue) % p in
      let A : ℕ = coefficient (combination G (cofactors_of n (map (negated p) qs))) k in
      let B : ℕ = coefficient (combination G (cofactors_of n qs)) k in
      let a : coefficient (combination G (cofactors_of n (map (negated p) (q ∷ qs)))) k ≡ d * w + A = coefficient-append (scale d m g) (combination G (cofactors_of n (map (negated p) qs))) k ∙ ap (λ z. z + A) (weighted_sum-scale (indicator k) d m g) in
      let b : coefficient (combination G (cofactors_of n (q ∷ qs))) k ≡ q.residue * w + B = coefficient-append (scale q.residue m g) (combination G (cofactors_of n qs)) k ∙ ap (λ z. z + B) (weighted_sum-scale (indicator k) q.residue m g) in
      let z : IsCongruent p ((d + q.residue) * w) 0 = IsCongruent_of_zero (d + q.residue) w (opposite p q.residue h.0) in
      IsCongruent_trans (IsCongruent_of p _ _ (ap₂ ◌+◌ a b))
      (IsCongruent_trans (IsCongruent_of p ((d * w + A) + (q.residue * w + B)) ((d + q.residue) * w + (A + B)) (omega arith))
      (IsCongruent_trans (IsCongruent_add z (negated_cancels qs k h.1)) (IsCongruent_of p (0 + 0) 0 refl)))

  -- the rest is the vector and those
  pub rest_sum :
      (parts qs : List ScaledProduct) (v rest : FormalSum n)
      → Each (λ q. q.residue < p) qs
      → IsSame p v (combination G (cofactors_of n parts)) → IsSame p v (combination G (cofactors_of n qs) ++ rest)
      → IsSame p rest (combination G (cofactors_of n (parts ++ map (negated p) qs)))
  rest_sum parts qs v rest h top same =
      IsSame_trans (record { by_key = at })
      (IsSame_trans (IsSame_append top (IsSame_refl p (combination G (cofactors_of n (map (negated p) qs)))))
      (IsSame_of p _ _ (sym (ap (combination G) (cofactors-append n parts (map (negated p) qs)) ∙ combination-append G (cofactors_of n parts) (cofactors_of n (map (negated p) qs))))))
    where
      at : (k : Key n) → IsCongruent p (coefficient rest k) (coefficient (v ++ combination G (cofactors_of n (map (negated p) qs))) k)
      at k =
          let A : ℕ = coefficient (combination G (cofactors_of n (map (negated p) qs))) k in
          let B : ℕ = coefficient (combination G (cofactors_of n qs)) k in
          let r : ℕ = coefficient rest k in
          let e : coefficient (v ++ combination G (cofactors_of n (map (negated p) qs))) k ≡ coefficient v k + A = coefficient-append v (combination G (cofactors_of n (map (negated p) qs))) k in
          let s : IsCongruent p (coefficient v k) (B + r) = IsCongruent_trans (same.by_key k) (IsCongruent_of p _ _ (coefficient-append (combination G (cofactors_of n qs)) rest k)) in
          IsCongruent_sym (IsCongruent_trans (IsCongruent_of p _ _ e)
          (IsCongruent_trans (IsCongruent_add s (IsCongruent_refl p A))
          (IsCongruent_trans (IsCongruent_of p ((B + r) + A) ((A + B) + r) (omega arith))
          (IsCongruent_trans (IsCongruent_add (negated_cancels qs k h) (IsCongruent_refl p r)) (IsCongruent_of p (0 + r) r (omega arith))))))
