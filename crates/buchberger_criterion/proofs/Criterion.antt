-- Buchberger's criterion, by descent on the greatest place
use Rattle.std.proofs.Common.{Equal, Greater, Less, List, Ordering, [], add-zero, get_or, inl, inr, length, refl, subst, sym, ℕ, ◌++◌, ◌+◌, ◌<◌, ◌∙◌, ◌∷◌, ◌≡◌, ◌⊎◌}
use Rattle.residues.proofs.Congruences.{IsCongruent_add, IsCongruent_decide, IsCongruent_of, IsCongruent_refl, IsCongruent_sym, IsCongruent_trans}
use Rattle.residues.specs.Residues.{IsCongruent}
use Rattle.formal_sums.proofs.Combining.{Each_map, IsMember_itself}
use Rattle.formal_sums.proofs.Sameness.{IsSame_sym, IsSame_trans}
use Rattle.formal_sums.proofs.WeightedSums.{coefficient-append}
use Rattle.formal_sums.specs.Combinations.{combination}
use Rattle.formal_sums.specs.FormalSums.{Each, FormalSum, IsSame, Key, Term, coefficient, scale}
use Rattle.orders.proofs.KeyOrdering.{less_of_greater}
use Rattle.orders.specs.MonomialOrders.{IsAccessible, accessible}
use Rattle.bases.proofs.FreeTerms.{IsCovered_monic}
use Rattle.bases.proofs.Leading.{IsLead_same}
use Rattle.bases.proofs.Places.{HasPlace, IsAtMost, IsDown, IsPlaced, below_at, lower_placed, multiple, multiple_above, multiple_at, split_top, top_place}
use Rattle.bases.specs.Bases.{IsCovered, IsGroebnerBasis}
use Rattle.bases.specs.Leads.{IsLead, IsMonicList}
use Rattle.bases.specs.Representations.{HasLcmRepresentations, IsLower}
use Rattle.bases.specs.Settings.{IsLawful, Setting}
use Rattle.buchberger_criterion.proofs.Collecting.{Collected, IsSame_dropped, collect}

module _ {n : ℕ} (S : Setting n) (lawful : IsLawful S) (G : List (FormalSum n)) (list : IsMonicList S G) where
  abbrev Claim : Key n → Type 0
  Claim k = (a : FormalSum n) → Each (IsAtMost S G k) a → (l : Key n) → IsLead S (combination G a) l → IsCovered S G l

  -- the step where all products are below k
  step_down :
      (k : Key n)
      → ((y : Key n) → IsDown S y k → Claim y) → (a : FormalSum n) → Each (IsLower S G k) a → (l : Key n)
      → IsLead S (combination G a) l → IsCovered S G l
  step_down k ih [] h l lead = absurd (lead.nonzero (IsCongruent_refl S.modulus 0))
  step_down k ih (t ∷ a) h l lead =
      let top = top_place S lawful G list (λ x. IsDown S x k) t a (lower_placed S lawful G list k (t ∷ a) h) in
      ih top.0 top.1 (t ∷ a) top.2 l lead

  step : HasLcmRepresentations S G → (k : Key n) → ((y : Key n) → IsDown S y k → Claim y) → Claim k
  step pairs k ih a up l lead = go (split_top S lawful G list k a up)
    where
      go : Each (IsLower S G k) a ⊎ HasPlace G k → IsCovered S G l
      go (inl low) = step_down k ih a low l lead
      go (inr (i, s, h, e)) = by (IsCongruent_decide S.modulus c.factor)
        where
          c : Collected S lawful G list k i s (combination G a)
          c = collect S lawful G list pairs k i s h e a up

          by : (IsCongruent S.modulus c.factor 0) ⊎ (IsCongruent S.modulus c.factor 0 → ⊥) → IsCovered S G l
          by (inl z) =
              let e' : IsSame S.modulus (combination G a) c.rest = IsSame_dropped c.factor s (get_or G i []) (combination G a) c.rest c.sums z in
              step_down k ih c.low.cofactors c.low.below l (IsLead_same S (IsSame_trans e' (IsSame_sym c.low.sums)) lead)
          by (inr z) = at (S.compare l k) refl
            where
              u : Term n
              u = ((i, s), c.factor)

              value :
                  (x : Key n)
                  → coefficient (scale c.factor s (get_or G i []) ++ c.rest) x ≡ coefficient (multiple G u) x + coefficient c.rest x
              value x = coefficient-append (multiple G u) c.rest x

              at : (o : Ordering) → S.compare l k ≡ o → IsCovered S G l
              at Less d =
                  let w : IsCongruent S.modulus (coefficient (multiple G u) k) c.factor = subst (λ x. IsCongruent S.modulus (coefficient (multiple G u) x) c.factor) e (multiple_at S lawful G list u h) in
                  absurd (z (IsCongruent_trans (IsCongruent_sym w)
                  (IsCongruent_trans (IsCongruent_of S.modulus _ _ (sym (add-zero (coefficient (multiple G u) k))))
                  (IsCongruent_trans (IsCongruent_add (IsCongruent_refl S.modulus (coefficient (multiple G u) k)) (IsCongruent_sym (below_at S lawful G list k k c.rest (inr refl) c.low)))
                  (IsCongruent_trans (IsCongruent_of S.modulus _ _ (sym (value k)))
                  (IsCongruent_trans (IsCongruent_sym (c.sums.by_key k)) (lead.above k d)))))))
              at Equal d = IsCovered_monic S lawful G list i l h (s, e ∙ sym (lawful.order.exact l k d))
              at Greater d =
                  let lt : S.compare k l ≡ Less = less_of_greater lawful.order l k d in
                  let w : IsCongruent S.modulus (coefficient (multiple G u) l) 0 = multiple_above S lawful G list u l h (subst (λ x. S.compare x l ≡ Less) (sym e) lt) in
                  absurd (lead.nonzero
                  (IsCongruent_trans (c.sums.by_key l)
                  (IsCongruent_trans (IsCongruent_of S.modulus _ _ (value l))
                  (IsCongruent_trans (IsCongruent_add w (below_at S lawful G list k l c.rest (inl lt) c.low)) (IsCongruent_of S.modulus (0 + 0) 0 refl)))))

  claim : HasLcmRepresentations S G → (k : Key n) → IsAccessible (IsDown S) k → Claim k
  claim pairs k (accessible k' down) = step pairs k' (λ y d. claim pairs y (down y d))

  from_cofactors :
      HasLcmRepresentations S G → (a : FormalSum n) → Each (IsPlaced G (λ x. Unit {0})) a → (k : Key n)
      → IsLead S (combination G a) k → IsCovered S G k
  from_cofactors pairs [] h k lead = absurd (lead.nonzero (IsCongruent_refl S.modulus 0))
  from_cofactors pairs (t ∷ a) h k lead =
      let top = top_place S lawful G list (λ x. Unit {0}) t a h in
      claim pairs top.0 (lawful.order.well_founded top.0) (t ∷ a) top.2 k lead

  -- where all pairs have lcm representations, G is a Gröbner basis of its module
  pub IsGroebnerBasis_criterion : HasLcmRepresentations S G → IsGroebnerBasis S G G
  IsGroebnerBasis_criterion pairs = record {
    members = λ i h. IsMember_itself S.modulus G i h;
    covers = λ v k m lead. from_cofactors pairs m.cofactors (Each_map (λ t. t.0.0 < length G) (IsPlaced G (λ x. Unit {0})) m.cofactors (λ t h. (h, tt)) m.positions) k (IsLead_same S (IsSame_sym m.sums) lead);
  }
