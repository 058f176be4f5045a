-- A Gröbner basis with its tails reduced is a reduced set
use Rattle.std.proofs.Common.{List, [], arith, get_or, inl, inr, length, subst, sym, ℕ, ◌*◌, ◌++◌, ◌+◌, ◌-◌, ◌<◌, ◌∙◌, ◌≡◌, ◌⊎◌}
use Rattle.residues.proofs.Congruences.{IsCongruent_add, IsCongruent_minus, IsCongruent_of, IsCongruent_refl, IsCongruent_trans}
use Rattle.residues.specs.Residues.{IsCongruent}
use Rattle.monomials.specs.Exponents.{unit}
use Rattle.formal_sums.proofs.Combining.{IsMember_append, IsMember_same}
use Rattle.formal_sums.proofs.Sameness.{weighted_sum-minus}
use Rattle.formal_sums.proofs.WeightedSums.{coefficient-append, key_cases}
use Rattle.formal_sums.specs.Combinations.{IsMember}
use Rattle.formal_sums.specs.FormalSums.{FormalSum, IsSame, Key, coefficient, indicator, scale}
use Rattle.orders.specs.KeyOrders.{KeyDivides}
use Rattle.bases.proofs.Leading.{IsLead_of_monic, positive}
use Rattle.bases.proofs.NormalForms.{IsMonicLead_normal}
use Rattle.bases.specs.Bases.{IsCovered, IsGroebnerBasis, IsReducedSet}
use Rattle.bases.specs.Leads.{IsLead, IsMonicLead, leads}
use Rattle.bases.specs.Settings.{IsLawful, Setting}
use Rattle.reduced_bases.specs.Interreduction.{IsMinimalList, IsTailReduced}

-- g plus the difference of h and g is h
difference_undone : {n : ℕ} (p : ℕ) (g h : FormalSum n) → 0 < p → IsSame p ((h ++ scale (p - 1) (unit n) g) ++ g) h
difference_undone {n} p g h pos = record {
  by_key = λ k.
      let x = coefficient h k in
      let y = coefficient g k in
      let e = coefficient-append (h ++ scale (p - 1) (unit n) g) g k in
      let d : coefficient (h ++ scale (p - 1) (unit n) g) k ≡ x + (p - 1) * y = weighted_sum-minus p (indicator k) h g in
      IsCongruent_trans (IsCongruent_of p _ (x + (y + (p - 1) * y)) (e ∙ (rw d (omega arith))))
      (IsCongruent_trans (IsCongruent_add (IsCongruent_refl p x) (IsCongruent_minus p y pos)) (IsCongruent_of p (x + 0) x (omega arith)));
}

module _ {n : ℕ} (S : Setting n) (lawful : IsLawful S) where
  pub IsReducedSet_tails :
      (F G H : List (FormalSum n))
      → IsGroebnerBasis S F G → IsMinimalList S G → IsTailReduced S F G H → IsReducedSet S F H
  IsReducedSet_tails F G H basis minimal reduced = record {
    basis = record { members = λ i h. inside i (there i h); covers = covers };
    normal = λ i h. reduced.normal i (there i h);
    monic = λ i h. monic i (there i h);
    apart = apart;
  }
    where
      there : (i : ℕ) → i < length H → i < length G
      there i h = subst (λ x. i < x) reduced.lengths h

      inside : (i : ℕ) → i < length G → IsMember S.modulus F (get_or H i [])
      inside i h =
          let g = get_or G i [] in
          let r = get_or H i [] in
          IsMember_same F _ r (difference_undone S.modulus g r (positive S lawful))
          (IsMember_append F (r ++ scale (S.modulus - 1) (unit n) g) g (reduced.differs i h) (basis.members i h))

      monic : (i : ℕ) → i < length G → IsMonicLead S (get_or H i []) (leads H i)
      monic i h = IsMonicLead_normal S lawful (get_or H i []) (reduced.normal i h) (reduced.monic i h)

      covers : (v : FormalSum n) (k : Key n) → IsMember S.modulus F v → IsLead S v k → IsCovered S H k
      covers v k a lead = go (basis.covers v k a lead)
        where
          go : IsCovered S G k → IsCovered S H k
          go (i, h, lead', d) = (i, subst (λ x. i < x) (sym reduced.lengths) h, IsLead_of_monic S lawful (monic i h), subst (λ x. KeyDivides x k) (sym (reduced.leads_kept i h)) d)

      apart :
          (i j : ℕ) (k : Key n)
          → i < length H → j < length H → (i ≡ j → ⊥) → KeyDivides (leads H j) k
          → IsCongruent S.modulus (coefficient (get_or H i []) k) 0
      apart i j k hi hj ne d = go (key_cases k (leads G i))
        where
          divides : KeyDivides (leads G j) k
          divides = subst (λ x. KeyDivides x k) (reduced.leads_kept j (there j hj)) d

          go : (k ≡ leads G i) ⊎ (k ≡ leads G i → ⊥) → IsCongruent S.modulus (coefficient (get_or H i []) k) 0
          go (inl e) = absurd (minimal.apart i j (there i hi) (there j hj) ne (subst (KeyDivides (leads G j)) e divides))
          go (inr other) = reduced.tails i (there i hi) k (j, there j hj, minimal.lead j (there j hj), divides) other
