-- Normal forms by division by a reduced basis
use Rattle.std.proofs.Common.{List, [], arith, refl, subst, ℕ, ◌*◌, ◌++◌, ◌+◌, ◌-◌, ◌<◌, ◌↔◌, ◌∷◌, ◌≡◌}
use Rattle.residues.proofs.Congruences.{IsCongruent_add, IsCongruent_minus, IsCongruent_of, IsCongruent_refl, IsCongruent_trans}
use Rattle.monomials.specs.Exponents.{unit}
use Rattle.formal_sums.proofs.Combining.{IsMember_same, IsMember_through}
use Rattle.formal_sums.proofs.OfRank.{IsMember_of}
use Rattle.formal_sums.proofs.Sameness.{IsSame_refl, IsSame_sym, weighted_sum-minus}
use Rattle.formal_sums.proofs.WeightedSums.{coefficient-append}
use Rattle.formal_sums.specs.Combinations.{IsMember, combination}
use Rattle.formal_sums.specs.FormalSums.{FormalSum, IsSame, coefficient, indicator, scale}
use Rattle.bases.proofs.Leading.{positive}
use Rattle.bases.specs.Bases.{IsReducedBasis}
use Rattle.bases.specs.Settings.{IsLawful, Setting}
use Rattle.division_laws.proofs.Remainders.{member_of_normal_form, normal_form_of_member}
use Rattle.term_lists.proofs.NormalVectors.{vector_normal}
use Rattle.term_lists.specs.Rings.{ring_comparison, setting, variables}
use Rattle.term_lists.specs.Vectors.{IsVectorOver, StandsFor, sum_of, sums_of}
use Rattle.term_lists.specs.declared.key.Key.{Key as CodeKey}
use Rattle.term_lists.specs.declared.ring.Ring.{Ring}
use Rattle.vector_division.proofs.Freeing.{HasFreeTerms_of_uncovered}
use Rattle.vector_division.specs.Divisions.{IsFreeOfLeads}
use Rattle.groebner_iface.specs.Runs.{IsReducedBasisOf}
use Rattle.session_values.specs.Answers.{IsInModule, IsNormalForm}

abbrev Terms : Type 0
Terms = List (CodeKey × ℕ)

-- what was taken away from v is v without what is left
taken_away : {n : ℕ} (p : ℕ) (v a r : FormalSum n) → 0 < p → IsSame p v (a ++ r) → IsSame p a (v ++ scale (p - 1) (unit n) r)
taken_away {n} p v a r pos h = IsSame_sym (record {
  by_key = λ k.
      let x = coefficient v k in
      let y = coefficient a k in
      let z = coefficient r k in
      let d : coefficient (v ++ scale (p - 1) (unit n) r) k ≡ x + (p - 1) * z = weighted_sum-minus p (indicator k) v r in
      IsCongruent_trans (IsCongruent_of p _ _ d)
      (IsCongruent_trans (IsCongruent_add (IsCongruent_trans (h.by_key k) (IsCongruent_of p _ (y + z) (coefficient-append a r k))) (IsCongruent_refl p ((p - 1) * z)))
      (IsCongruent_trans (IsCongruent_of p ((y + z) + (p - 1) * z) (y + (z + (p - 1) * z)) (omega arith))
      (IsCongruent_trans (IsCongruent_add (IsCongruent_refl p y) (IsCongruent_minus p z pos)) (IsCongruent_of p (y + 0) y (omega arith)))));
})

module _ {n : ℕ} (S : Setting n) (lawful : IsLawful S) (F G : List (FormalSum n)) (basis : IsReducedBasis S F G) where
  -- and differs from what was divided by a member
  pub differing : (v a r : FormalSum n) → IsSame S.modulus v (combination G a ++ r) → IsMember S.modulus F (v ++ scale (S.modulus - 1) (unit n) r)
  differing v a r h =
      let pos = positive S lawful in
      IsMember_same F (combination G a) _ (taken_away S.modulus v (combination G a) r pos h)
      (IsMember_through pos F G basis.reduced.basis.members (combination G a) (IsMember_of G a (combination G a) (IsSame_refl S.modulus (combination G a))))

module _ (ring : Ring) (rank : ℕ) (list basis : List Terms) (lawful : IsLawful (setting ring (variables ring) (ring_comparison ring (variables ring)) rank)) (reduced : IsReducedBasisOf ring rank list basis) where
  pub normal_form_by_division :
      (v w : Terms) (a : FormalSum (variables ring))
      → StandsFor ring v (combination (sums_of (variables ring) basis) a ++ sum_of (variables ring) w) → IsVectorOver ring (ring_comparison ring) w
      → IsFreeOfLeads (sums_of (variables ring) basis) (sum_of (variables ring) w) → IsNormalForm ring rank list v w
  normal_form_by_division v w a sum vector free = record {
    basis = basis;
    reduced = reduced;
    vector = vector;
    differs = differing (setting ring (variables ring) (ring_comparison ring (variables ring)) rank) lawful (sums_of (variables ring) list) (sums_of (variables ring) basis) reduced.basis (sum_of (variables ring) v) a (sum_of (variables ring) w) sum;
    free = HasFreeTerms_of_uncovered (setting ring (variables ring) (ring_comparison ring (variables ring)) rank) (sums_of (variables ring) basis) (sum_of (variables ring) w) free;
  }

empty_sum : (n : ℕ) (w : Terms) → sum_of n w ≡ [] → w ≡ []
empty_sum n [] e = refl
empty_sum n (t ∷ w) e = absurd cc

-- a vector is in the module exactly where its normal form is zero
pub member_by_normal_form :
    (ring : Ring) (rank : ℕ) (list : List Terms) (v w : Terms)
    → IsLawful (setting ring (variables ring) (ring_comparison ring (variables ring)) rank) → IsNormalForm ring rank list v w
    → IsInModule ring list v ↔ (w ≡ [])
member_by_normal_form ring rank list v w lawful h =
    let n = variables ring in
    let S = setting ring n (ring_comparison ring n) rank in (
      λ m. empty_sum n w (normal_form_of_member S lawful (sums_of n list) (sums_of n h.basis) h.reduced.basis.reduced.basis (sum_of n v) (sum_of n w) h.differs (vector_normal ring (ring_comparison ring) rank w h.vector) h.free m),
      λ e. member_of_normal_form S lawful (sums_of n list) (sums_of n h.basis) h.reduced.basis.reduced.basis (sum_of n v)
          (subst (λ z. IsMember ring.modulus.value (sums_of n list) (sum_of n v ++ scale (ring.modulus.value - 1) (unit n) (sum_of n z))) e h.differs),
    )
