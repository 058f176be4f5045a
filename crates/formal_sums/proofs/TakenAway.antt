-- A sum of two vectors, and one of them
use Rattle.std.proofs.Common.{arith, ℕ, ◌*◌, ◌++◌, ◌+◌, ◌-◌, ◌<◌, ◌≡◌}
use Rattle.residues.proofs.Congruences.{IsCongruent_add, IsCongruent_minus, IsCongruent_of, IsCongruent_refl, IsCongruent_trans}
use Rattle.monomials.specs.Exponents.{unit}
use Rattle.formal_sums.proofs.Sameness.{IsSame_sym, weighted_sum-minus}
use Rattle.formal_sums.proofs.WeightedSums.{coefficient-append}
use Rattle.formal_sums.specs.FormalSums.{FormalSum, IsSame, coefficient, indicator, scale}

-- where v is a + r, a is v - r
pub taken_away : {n : ℕ} (p : ℕ) (v a r : FormalSum n) → 0 < p → IsSame p v (a ++ r) → IsSame p a (v ++ scale (p - 1) (unit n) r)
taken_away {n} p v a r pos h = IsSame_sym (record {
  by_key = λ k.
      let x = coefficient v k in
      let y = coefficient a k in
      let z = coefficient r k in
      let d : coefficient (v ++ scale (p - 1) (unit n) r) k ≡ x + (p - 1) * z = weighted_sum-minus p (indicator k) v r in
      IsCongruent_trans (IsCongruent_of p _ _ d)
      (IsCongruent_trans (IsCongruent_add (IsCongruent_trans (h.by_key k) (IsCongruent_of p _ (y + z) (coefficient-append a r k))) (IsCongruent_refl p ((p - 1) * z)))
      (IsCongruent_trans (IsCongruent_of p ((y + z) + (p - 1) * z) (y + (z + (p - 1) * z)) (omega arith))
      (IsCongruent_trans (IsCongruent_add (IsCongruent_refl p y) (IsCongruent_minus p z pos)) (IsCongruent_of p (y + 0) y (omega arith)))));
})
