-- Cofactors of one vector
use Rattle.std.proofs.Common.{List, [], length, ℕ, ◌++◌, ◌-◌, ◌<◌, ◌≡◌}
use Rattle.residues.proofs.Congruences.{IsCongruent_minus_of, IsCongruent_of, IsCongruent_trans}
use Rattle.monomials.specs.Exponents.{unit}
use Rattle.formal_sums.proofs.Combining.{combination-append, combination-scale}
use Rattle.formal_sums.proofs.OfRank.{IsOfRank_append, IsOfRank_scale}
use Rattle.formal_sums.proofs.Sameness.{IsSame_append, IsSame_of, IsSame_refl, IsSame_trans, weighted_sum-minus}
use Rattle.formal_sums.specs.Combinations.{IsMember, IsSyzygy, combination}
use Rattle.formal_sums.specs.FormalSums.{FormalSum, IsOfRank, IsSame, indicator, scale}
use Rattle.bases.proofs.Leading.{positive}
use Rattle.bases.specs.Bases.{HasFreeTerms, IsGroebnerBasis}
use Rattle.bases.specs.Leads.{IsNormal}
use Rattle.bases.specs.Settings.{IsLawful, Setting}
use Rattle.division_laws.proofs.Remainders.{normal_form_unique, remainder_unique}

-- v - w is 0 where they are the same
same_minus : {n : ℕ} (p : ℕ) (v w : FormalSum n) → 0 < p → IsSame p v w → IsSame p (v ++ scale (p - 1) (unit n) w) []
same_minus {n} p v w pos e = record {
  by_key = λ k. IsCongruent_trans (IsCongruent_of p _ _ (weighted_sum-minus p (indicator k) v w)) (IsCongruent_minus_of pos (e.by_key k));
}

-- cofactors of one vector differ by a syzygy
pub IsSyzygy_difference :
    {n : ℕ} (p : ℕ) (F : List (FormalSum n)) (a b : FormalSum n) → IsOfRank p (length F) a
    → IsOfRank p (length F) b → 0 < p → IsSame p (combination F a) (combination F b)
    → IsSyzygy p F (a ++ scale (p - 1) (unit n) b)
IsSyzygy_difference {n} p F a b ra rb pos e = record {
  rank = IsOfRank_append a (scale (p - 1) (unit n) b) ra (IsOfRank_scale (p - 1) (unit n) b rb);
  vanishes = IsSame_trans (IsSame_of p _ _ (combination-append F a (scale (p - 1) (unit n) b)))
      (IsSame_trans (IsSame_append (IsSame_refl p (combination F a)) (IsSame_of p _ _ (combination-scale F (p - 1) (unit n) b)))
      (same_minus p (combination F a) (combination F b) pos e));
}

module _ {n : ℕ} (T : Setting n) (lawful : IsLawful T) (F H Z : List (FormalSum n)) (basis : IsGroebnerBasis T H Z)
    (generate : (c : FormalSum n) → IsSyzygy T.modulus F c → IsMember T.modulus H c) (a b : FormalSum n)
    (ra : IsOfRank T.modulus (length F) a) (rb : IsOfRank T.modulus (length F) b)
    (e : IsSame T.modulus (combination F a) (combination F b)) where
  inside : IsMember T.modulus H (a ++ scale (T.modulus - 1) (unit n) b)
  inside = generate (a ++ scale (T.modulus - 1) (unit n) b) (IsSyzygy_difference T.modulus F a b ra rb (positive T lawful) e)

  pub lift_same : HasFreeTerms T Z a → HasFreeTerms T Z b → IsSame T.modulus a b
  lift_same fa fb = remainder_unique T lawful H Z basis a b inside fa fb

  pub lift_equal : IsNormal T a → IsNormal T b → HasFreeTerms T Z a → HasFreeTerms T Z b → a ≡ b
  lift_equal na nb fa fb = normal_form_unique T lawful H Z basis a b inside na nb fa fb
