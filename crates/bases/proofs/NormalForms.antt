-- Sorted lists of reduced terms: the lead is the head, and each vector has one such list
use Rattle.std.proofs.Common.{Bool, Equal, Greater, Less, List, Ordering, [], ap, ap₂, arith, cond, false, get_or, inl, inr, length, refl, subst, sym, true, ℕ, ◌*◌, ◌+◌, ◌<◌, ◌∙◌, ◌∷◌, ◌≡◌, ◌⊎◌}
use Rattle.std.proofs.lemmas.Cmp.{ranked}
use Rattle.residues.proofs.Congruences.{IsCongruent_cancel, IsCongruent_equal, IsCongruent_nonzero, IsCongruent_of, IsCongruent_sym, IsCongruent_trans}
use Rattle.residues.specs.Residues.{IsCongruent}
use Rattle.formal_sums.proofs.WeightedSums.{same_key-refl, same_key-true}
use Rattle.formal_sums.specs.FormalSums.{Each, FormalSum, IsSame, Key, Term, coefficient, indicator, same_key}
use Rattle.orders.proofs.KeyOrdering.{less_of_greater, not_itself}
use Rattle.orders.specs.KeyOrders.{Descends}
use Rattle.bases.proofs.Leading.{positive}
use Rattle.bases.specs.Leads.{HasReducedResidues, IsLead, IsMonicLead, IsMonicList, IsNormal, head_coefficient, head_key, leads}
use Rattle.bases.specs.Settings.{IsLawful, Setting}

module _ {n : ℕ} (S : Setting n) (lawful : IsLawful S) where
  abbrev IsAbove : Key n → FormalSum n → Type 0
  IsAbove k v = Each (λ u. S.compare k u.0 ≡ Greater) v

  -- from k up nothing stands in v
  -- below k nothing stands at k
  pub none_from : (k l : Key n) (v : FormalSum n) → IsAbove k v → (S.compare k l ≡ Less) ⊎ (k ≡ l) → coefficient v l ≡ 0
  none_from k l [] h e = refl
  none_from k l (t ∷ v) h e = go (same_key l t.0) refl (none_from k l v h.1 e) e
    where
      go :
          (b : Bool)
          → same_key l t.0 ≡ b → coefficient v l ≡ 0 → (S.compare k l ≡ Less) ⊎ (k ≡ l)
          → t.1 * cond b 1 0 + coefficient v l ≡ 0
      go true d z (inl q) = absurd (let w : S.compare k l ≡ Greater = ap (S.compare k) (same_key-true l t.0 d) ∙ h.0 in cc)
      go true d z (inr q) = absurd (not_itself lawful.order k (less_of_greater lawful.order k k (ap (S.compare k) (q ∙ same_key-true l t.0 d) ∙ h.0)))
      go false d z q = omega arith

  -- the first key's coefficient
  pub at_head : (t : Term n) (v : FormalSum n) → Descends S.compare (t ∷ v) → coefficient (t ∷ v) t.0 ≡ t.1
  at_head t v h =
      let z : coefficient v t.0 ≡ 0 = none_from t.0 t.0 v h.0 (inr refl) in
      let s = same_key-refl t.0 in
      rw (s, z) (omega arith)

  above_head :
      (t : Term n) (v : FormalSum n)
      → Descends S.compare (t ∷ v) → (l : Key n) → S.compare t.0 l ≡ Less → coefficient (t ∷ v) l ≡ 0
  above_head t v h l e = go (same_key l t.0) refl
    where
      go : (b : Bool) → same_key l t.0 ≡ b → t.1 * cond b 1 0 + coefficient v l ≡ 0
      go true d = absurd (not_itself lawful.order t.0 (ap (S.compare t.0) (sym (same_key-true l t.0 d)) ∙ e))
      go false d = let z = none_from t.0 l v h.0 (inl e) in omega arith

  -- the first key is the lead
  pub head_lead :
      (t : Term n) (v : FormalSum n)
      → Descends S.compare (t ∷ v) → HasReducedResidues S (t ∷ v) → IsLead S (t ∷ v) t.0
  head_lead t v h k = record {
    nonzero = λ z. IsCongruent_nonzero S.modulus t.1 k.0.0 k.0.1 (IsCongruent_trans (IsCongruent_of S.modulus _ _ (sym (at_head t v h))) z);
    above = λ l e. IsCongruent_of S.modulus _ 0 (above_head t v h l e);
  }

  tails : (t u : Term n) (v w : FormalSum n) → t ≡ u → IsSame S.modulus (t ∷ v) (u ∷ w) → IsSame S.modulus v w
  tails t u v w e h =
      let h' : IsSame S.modulus (t ∷ v) (t ∷ w) = subst (λ z. IsSame S.modulus (t ∷ v) (z ∷ w)) (sym e) h in
      record { by_key = λ l. IsCongruent_cancel (positive S lawful) (t.1 * indicator l t.0) (h'.by_key l) }

  -- normal lists of one vector are one list
  pub normal_unique :
      (v w : FormalSum n)
      → Descends S.compare v → Descends S.compare w → HasReducedResidues S v → HasReducedResidues S w
      → IsSame S.modulus v w → v ≡ w
  normal_unique [] [] hv hw rv rw' e = refl
  normal_unique [] (u ∷ w) hv hw rv rw' e = absurd ((head_lead u w hw rw').nonzero (IsCongruent_sym (e.by_key u.0)))
  normal_unique (t ∷ v) [] hv hw rv rw' e = absurd ((head_lead t v hv rv).nonzero (e.by_key t.0))
  normal_unique (t ∷ v) (u ∷ w) hv hw rv rw' e =
      let d : t ≡ u = heads t u v w hv hw rv rw' e in
      ap₂ ◌∷◌ d (normal_unique v w hv.1 hw.1 rv.1 rw'.1 (tails t u v w d e))
    where
      heads :
          (t u : Term n) (v w : FormalSum n)
          → Descends S.compare (t ∷ v) → Descends S.compare (u ∷ w) → HasReducedResidues S (t ∷ v)
          → HasReducedResidues S (u ∷ w) → IsSame S.modulus (t ∷ v) (u ∷ w) → t ≡ u
      heads t u v w hv hw rv rw' e = go (S.compare t.0 u.0) refl
        where
          go : (o : Ordering) → S.compare t.0 u.0 ≡ o → t ≡ u
          go Less d = absurd ((head_lead u w hw rw').nonzero (IsCongruent_trans (IsCongruent_sym (e.by_key u.0)) ((head_lead t v hv rv).above u.0 d)))
          go Greater d = absurd ((head_lead t v hv rv).nonzero (IsCongruent_trans (e.by_key t.0) ((head_lead u w hw rw').above t.0 (less_of_greater lawful.order t.0 u.0 d))))
          go Equal d =
              let k : t.0 ≡ u.0 = lawful.order.exact t.0 u.0 d in
              let c : IsCongruent S.modulus t.1 u.1 = IsCongruent_trans (IsCongruent_of S.modulus _ _ (sym (at_head t v hv))) (IsCongruent_trans (e.by_key t.0) (IsCongruent_of S.modulus _ _ (ap (coefficient (u ∷ w)) k ∙ at_head u w hw))) in
              ap₂ (λ x y. (x, y)) k (IsCongruent_equal S.modulus t.1 u.1 rv.0.1 rw'.0.1 c)

-- a normal list that is not empty has its first key as its lead
pub IsNormal_lead :
    {n : ℕ} (S : Setting n) → IsLawful S → (v : FormalSum n) → IsNormal S v → (v ≡ [] → ⊥)
    → IsLead S v (head_key v)
IsNormal_lead S lawful [] h ne = absurd (ne refl)
IsNormal_lead S lawful (t ∷ v) h ne = head_lead S lawful t v h.descends h.residues

-- a normal list with first coefficient 1 is monic
pub IsMonicLead_normal :
    {n : ℕ} (S : Setting n) → IsLawful S → (v : FormalSum n) → IsNormal S v → head_coefficient v ≡ 1
    → IsMonicLead S v (head_key v)
IsMonicLead_normal S lawful [] h e = absurd (omega arith)
IsMonicLead_normal S lawful (t ∷ v) h e = record {
  one = IsCongruent_of S.modulus _ 1 (at_head S lawful t v h.descends ∙ e);
  above = (head_lead S lawful t v h.descends h.residues).above;
}

-- normal lists with first coefficient 1 are a monic list
pub IsMonicList_normal :
    {n : ℕ} (S : Setting n) → IsLawful S → (G : List (FormalSum n))
    → ((i : ℕ) → i < length G → IsNormal S (get_or G i []))
    → ((i : ℕ) → i < length G → head_coefficient (get_or G i []) ≡ 1)
    → ((i : ℕ) → i < length G → (leads G i).0 < S.rank) → IsMonicList S G
IsMonicList_normal S lawful G normal one ranked = record {
  monic = λ i h. IsMonicLead_normal S lawful (get_or G i []) (normal i h) (one i h);
  ranked = ranked;
}
