-- A member of the columns' module that has no key which a lead divides is zero
use Rattle.std.proofs.Common.{List, [], arith, get_or, inl, inr, ℕ, ◌*◌, ◌++◌, ◌+◌, ◌-◌, ◌<◌, ◌≡◌, ◌⊎◌}
use Rattle.std.specs.declared.cmp.Ordering.{Ordering}
use Rattle.residues.proofs.Congruences.{IsCongruent_add, IsCongruent_minus, IsCongruent_of, IsCongruent_refl, IsCongruent_trans}
use Rattle.monomials.specs.Exponents.{unit}
use Rattle.formal_sums.proofs.Combining.{IsMember_append, IsMember_same, IsMember_scale}
use Rattle.formal_sums.proofs.OfRank.{IsMember_of}
use Rattle.formal_sums.proofs.Sameness.{IsSame_refl, weighted_sum-minus}
use Rattle.formal_sums.proofs.WeightedSums.{coefficient-append}
use Rattle.formal_sums.specs.Combinations.{IsMember, combination}
use Rattle.formal_sums.specs.FormalSums.{FormalSum, IsSame, Key, coefficient, indicator, scale}
use Rattle.bases.proofs.FreeTerms.{lead_of_zero}
use Rattle.bases.specs.Bases.{IsCovered, IsGroebnerBasis}
use Rattle.bases.specs.Leads.{IsLead, leads}
use Rattle.bases.specs.Settings.{IsLawful, Setting}
use Rattle.division_laws.proofs.Remainders.{remainder_zero}
use Rattle.term_lists.specs.Rings.{setting, variables}
use Rattle.term_lists.specs.Vectors.{sums_of}
use Rattle.term_lists.specs.declared.key.Key.{Key as CodeKey}
use Rattle.term_lists.specs.declared.ring.Ring.{Ring}
use Rattle.module_vectors.specs.Trails.{HasKey}
use Rattle.vector_division.proofs.Occurring.{at_key, occurs}
use Rattle.vector_division.specs.Divisions.{IsUncovered}
use Rattle.schreyer_resolution.specs.FreeKeys.{AreFreeMembersZero}

-- what was taken away of v leaves the rest
rest_is : {m : ℕ} (p : ℕ) (v a r : FormalSum m) → 0 < p → IsSame p v (a ++ r) → IsSame p (v ++ scale (p - 1) (unit m) a) r
rest_is {m} p v a r pos h = record {
  by_key = λ k. rw (weighted_sum-minus p (indicator k) v a)
      (IsCongruent_trans
      (IsCongruent_add (IsCongruent_trans (h.by_key k) (IsCongruent_of p _ _ (coefficient-append a r k))) (IsCongruent_refl p ((p - 1) * coefficient a k)))
      (IsCongruent_trans (IsCongruent_of p _ _ (shuffled (coefficient a k) (coefficient r k) ((p - 1) * coefficient a k)))
      (IsCongruent_trans (IsCongruent_add (IsCongruent_refl p (coefficient r k)) (IsCongruent_minus p (coefficient a k) pos))
      (IsCongruent_of p _ _ (omega arith)))));
}
  where
    shuffled : (x y z : ℕ) → x + y + z ≡ y + (x + z)
    shuffled x y z = omega arith

-- what a combination leaves of a member is a member
pub rest_member :
    {n : ℕ} (p : ℕ) → 0 < p → (F : List (FormalSum n)) (v c r : FormalSum n) → IsMember p F v → IsSame p v (combination F c ++ r) → IsMember p F r
rest_member {n} p pos F v c r m h =
    let a = combination F c in
    IsMember_same F (v ++ scale (p - 1) (unit n) a) r (rest_is p v a r pos h)
    (IsMember_append F v _ m (IsMember_scale pos F (p - 1) (unit n) a (IsMember_of F c a (IsSame_refl p a))))

-- it has no lead
pub free_members_zero :
    (ring : Ring) (compare : (m : ℕ) → Key m → Key m → Ordering) (rank : ℕ) → IsLawful (setting ring (variables ring) (compare (variables ring)) rank)
    → (cols : List (List (CodeKey × ℕ)))
    → IsGroebnerBasis (setting ring (variables ring) (compare (variables ring)) rank) (sums_of (variables ring) cols) (sums_of (variables ring) cols)
    → AreFreeMembersZero ring cols
free_members_zero ring compare rank lawful cols basis v member free =
    remainder_zero S lawful F F basis v member (λ k lead cov. uncovered k lead cov (occurs v k))
  where
    S : Setting (variables ring)
    S = setting ring (variables ring) (compare (variables ring)) rank

    F : List (FormalSum (variables ring))
    F = sums_of (variables ring) cols

    uncovered :
        (k : Key (variables ring)) → IsLead (setting ring (variables ring) (compare (variables ring)) rank) v k
        → IsCovered (setting ring (variables ring) (compare (variables ring)) rank) (sums_of (variables ring) cols) k
        → HasKey v k ⊎ (coefficient v k ≡ 0) → ⊥
    uncovered k lead (i, l, ld, d) (inl h) =
        at_key (IsUncovered (sums_of (variables ring) cols)) v k free h i l
        (λ z. lead_of_zero (setting ring (variables ring) (compare (variables ring)) rank) (get_or (sums_of (variables ring) cols) i [])
        (leads (sums_of (variables ring) cols) i) z ld) d
    uncovered k lead cov (inr z) = lead.nonzero (IsCongruent_of ring.modulus.value _ _ z)
