-- A product is taken away of a sum
use Rattle.std.proofs.Common.{List, ap, arith, drop, length, sym, take, ℕ, ◌%◌, ◌*◌, ◌+◌, ◌++◌, ◌-◌, ◌<◌, ◌∙◌, ◌≡◌}
use Rattle.std.proofs.Math.Seq.{take-append_seam}
use Rattle.residues.proofs.Congruences.{IsCongruent_add, IsCongruent_minus, IsCongruent_mod, IsCongruent_multiply, IsCongruent_of, IsCongruent_refl, IsCongruent_sym, IsCongruent_trans}
use Rattle.residues.specs.Residues.{IsCongruent}
use Rattle.monomials.specs.Exponents.{exponents_of, unit}
use Rattle.formal_sums.proofs.Sameness.{coefficient-scale_unit}
use Rattle.formal_sums.proofs.WeightedSums.{coefficient-append, weighted_sum-scale}
use Rattle.formal_sums.specs.FormalSums.{FormalSum, IsSame, coefficient, indicator, scale, shift, weighted_sum}

-- sums that were lent and written
pub written_back : (n : ℕ) (new old : List ℕ) → n ≡ length new → take n (new ++ drop (length new) old) ≡ new
written_back n new old e = ap (λ m. take m (new ++ drop (length new) old)) e ∙ take-append_seam new (drop (length new) old)

-- a residue and the one with the other sign
pub cancelled : (p r : ℕ) → r < p → IsCongruent p ((p - r) % p + r) 0
cancelled p r lt =
    let pos : 0 < p = omega (arith, lt) in
    let whole : (p - r) + r ≡ 1 + (p - 1) * 1 = omega (arith, lt) in
    IsCongruent_trans (IsCongruent_add (IsCongruent_mod p (p - r)) (IsCongruent_refl p r))
    (IsCongruent_trans (IsCongruent_of p _ _ whole) (IsCongruent_minus p 1 pos))

-- what is added to the sums is taken away of the whole
pub sum_taken :
    {n : ℕ} (p r f : ℕ) (m : List ℕ) (top a old new row g : FormalSum n) → IsCongruent p (f + r) 0
    → row ≡ scale 1 (exponents_of n m) g → IsSame p top (a ++ old) → IsSame p new (old ++ scale f (unit n) row)
    → IsSame p top ((a ++ scale r (exponents_of n m) g) ++ new)
sum_taken {n} p r f m top a old new row g z is h h' = record {
  by_key = λ k.
      let w = weighted_sum (λ l. indicator k (shift (exponents_of n m) l)) g in
      let A = coefficient a k in
      let D = coefficient old k in
      let x : coefficient (scale r (exponents_of n m) g) k ≡ r * w = weighted_sum-scale (indicator k) r (exponents_of n m) g in
      let y : coefficient row k ≡ w = ap (λ v. coefficient v k) is ∙ weighted_sum-scale (indicator k) 1 (exponents_of n m) g ∙ omega arith in
      let q : coefficient (scale f (unit n) row) k ≡ f * w = coefficient-scale_unit f row k ∙ ap (λ v. f * v) y in
      let one = IsCongruent_trans (h.by_key k) (IsCongruent_of p _ _ (coefficient-append a old k)) in
      let two = IsCongruent_trans (h'.by_key k) (IsCongruent_of p _ _ (coefficient-append old (scale f (unit n) row) k ∙ ap (λ v. D + v) q)) in
      let whole : coefficient ((a ++ scale r (exponents_of n m) g) ++ new) k ≡ (A + r * w) + coefficient new k =
      coefficient-append (a ++ scale r (exponents_of n m) g) new k ∙ ap (λ v. v + coefficient new k) (coefficient-append a (scale r (exponents_of n m) g) k ∙ ap (λ v. A + v) x) in
      IsCongruent_trans one
      (IsCongruent_trans (IsCongruent_of p (A + D) (A + D + 0 * w) (omega arith))
      (IsCongruent_trans (IsCongruent_add (IsCongruent_refl p (A + D)) (IsCongruent_multiply (IsCongruent_sym z) (IsCongruent_refl p w)))
      (IsCongruent_trans (IsCongruent_of p (A + D + (f + r) * w) ((A + r * w) + (D + f * w)) (omega arith))
      (IsCongruent_trans (IsCongruent_add (IsCongruent_refl p (A + r * w)) (IsCongruent_sym two)) (IsCongruent_of p _ _ (sym whole))))));
}
