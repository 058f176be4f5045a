-- Differences and unit vectors
use Rattle.std.proofs.Common.{[], subst, sym, ℕ, ◌%◌, ◌++◌, ◌-◌, ◌∷◌, ◌≡◌}
use Rattle.residues.proofs.Congruences.{IsCongruent_mod, IsCongruent_multiply, IsCongruent_refl}
use Rattle.monomials.specs.Exponents.{Exponents, unit}
use Rattle.formal_sums.proofs.Sameness.{IsSame_append, IsSame_refl, IsSame_trans}
use Rattle.formal_sums.proofs.WeightedSums.{weighted_sum-scale}
use Rattle.formal_sums.specs.FormalSums.{FormalSum, IsSame, indicator, scale}
use Rattle.monomial_orders.specs.Kept.{Monomial}
use Rattle.monomial_orders.specs.Monomials.{IsMonomial}
use Rattle.term_lists.specs.Vectors.{sum_of}

-- a factor counts modulo p
scale_mod : {n : ℕ} (p c : ℕ) (m : Exponents n) (v : FormalSum n) → IsSame p (scale (c % p) m v) (scale c m v)
scale_mod p c m v = record {
  by_key = λ k. rw (weighted_sum-scale (indicator k) (c % p) m v, weighted_sum-scale (indicator k) c m v) (IsCongruent_multiply (IsCongruent_mod p c) (IsCongruent_refl p _));
}

-- adding the residue of p - c times a vector takes c times it
pub less_of_sum :
    {n : ℕ} (p c d : ℕ) (m : Exponents n) (u v w : FormalSum n)
    → d ≡ (p - c) % p → IsSame p w (u ++ scale d m v) → IsSame p w (u ++ scale (p - c) m v)
less_of_sum p c d m u v w e h =
    IsSame_trans h (IsSame_append (IsSame_refl p u) (subst (λ z. IsSame p (scale z m v) (scale (p - c) m v)) (sym e) (scale_mod p (p - c) m v)))

-- one term, with the monomial 1
pub unit_sum :
    (p n k i : ℕ) (m : Monomial) (v : FormalSum n)
    → k ≡ n → IsMonomial k (unit k) m.exponents
    → IsSame p v (sum_of n ((record { position = i; monomial = m }, 1) ∷ []))
    → IsSame p v (((i, unit n), 1) ∷ [])
unit_sum p n k i m v e h =
    let g : IsMonomial n (unit n) m.exponents = subst (λ z. IsMonomial z (unit z) m.exponents) e h in
    subst (λ (z : Exponents n). IsSame p v (((i, z), 1) ∷ [])) g.exponents
