-- Standard and lcm representations of members
use Rattle.std.proofs.Common.{Equal, Greater, Less, List, Ordering, [], ap, append-nil, get_or, inl, inr, refl, subst, sym, ℕ, ◌*◌, ◌++◌, ◌-◌, ◌∙◌, ◌∷◌, ◌≡◌}
use Rattle.residues.specs.Residues.{IsCongruent}
use Rattle.formal_sums.proofs.Combining.{Each_map, IsMember_append, IsMember_scale, combination-append}
use Rattle.formal_sums.proofs.Sameness.{IsSame_append, IsSame_of, IsSame_refl, IsSame_trans}
use Rattle.formal_sums.proofs.WeightedSums.{Each_append}
use Rattle.formal_sums.specs.Combinations.{IsMember, combination}
use Rattle.formal_sums.specs.FormalSums.{FormalSum, Key, Term, coefficient}
use Rattle.orders.proofs.KeyOrdering.{less_of_greater}
use Rattle.bases.proofs.Leading.{positive}
use Rattle.bases.proofs.Places.{IsAtMost, multiple}
use Rattle.bases.proofs.SVectors.{IsMember_s_vector, s_vector_below}
use Rattle.bases.specs.Bases.{IsCovered, IsGroebnerBasis}
use Rattle.bases.specs.Leads.{IsLead, IsMonicList, leads}
use Rattle.bases.specs.Representations.{HasLcmRepresentations, IsLower, IsSumBelow, key_lcm, s_vector}
use Rattle.bases.specs.Settings.{IsLawful, Setting}
use Rattle.division_laws.proofs.Dividing.{remainder_step, remainder_step_above, remainder_step_at, remainder_step_undone}
use Rattle.division_laws.proofs.Sinking.{IsGroebnerBasis_sums}
use Rattle.division_laws.specs.Standard.{HasStandardRepresentation}

module _ {n : ℕ} (S : Setting n) (lawful : IsLawful S) (F G : List (FormalSum n)) (list : IsMonicList S G) (basis : IsGroebnerBasis S F G) where
  -- a member with lead k is a sum of products at most at k
  pub IsGroebnerBasis_standard :
      (v : FormalSum n) (k : Key n)
      → IsMember S.modulus F v → IsLead S v k → HasStandardRepresentation S G k v
  IsGroebnerBasis_standard v k member lead = go (basis.covers v k member lead)
    where
      go : IsCovered S G k → HasStandardRepresentation S G k v
      go (i, h, first, (m, e)) = record {
        cofactors = rest.cofactors ++ t ∷ [];
        at_most = Each_append (IsAtMost S G k) rest.cofactors (t ∷ []) (Each_map (IsLower S G k) (IsAtMost S G k) rest.cofactors (λ u g. (g.0, inl g.1)) rest.below) ((h, inr e), tt);
        sums = IsSame_trans (IsSame_of S.modulus _ _ (combination-append G rest.cofactors (t ∷ []) ∙ ap (λ x. combination G rest.cofactors ++ x) (append-nil (multiple G t))))
            (IsSame_trans (IsSame_append rest.sums (IsSame_refl S.modulus (multiple G t))) (remainder_step_undone S lawful G list v k i m));
      }
        where
          t : Term n
          t = ((i, m), (S.modulus - 1) * ((S.modulus - 1) * coefficient v k))

          w : FormalSum n
          w = remainder_step S lawful G list v k i m

          inside : IsMember S.modulus F w
          inside = IsMember_append F v _ member (IsMember_scale (positive S lawful) F ((S.modulus - 1) * coefficient v k) m (get_or G i []) (basis.members i h))

          lower : (l : Key n) → IsLead S w l → (o : Ordering) → S.compare l k ≡ o → S.compare l k ≡ Less
          lower l q Less d = d
          lower l q Equal d = absurd (q.nonzero (subst (λ x. IsCongruent S.modulus (coefficient w x) 0) (sym (lawful.order.exact l k d)) (remainder_step_at S lawful G list v k i m h e)))
          lower l q Greater d = absurd (q.nonzero (remainder_step_above S lawful G list v k i m h e lead l (less_of_greater lawful.order l k d)))

          rest : IsSumBelow S G k w
          rest = IsGroebnerBasis_sums S lawful F G list basis w k inside (λ l q. lower l q (S.compare l k) refl)

  -- each pair of members has an lcm representation
  pub IsGroebnerBasis_representations : HasLcmRepresentations S G
  IsGroebnerBasis_representations i j hi hj e =
      IsGroebnerBasis_sums S lawful F G list basis (s_vector S.modulus (get_or G i []) (get_or G j [])) (key_lcm (leads G i) (leads G j))
      (IsMember_s_vector S lawful F G i j (basis.members i hi) (basis.members j hj)) (λ l q. s_vector_below S lawful G list i j hi hj e l q)
