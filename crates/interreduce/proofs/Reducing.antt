-- The members that are needed, with their tails reduced, by descending leads
use Rattle.std.proofs.Common.{Less, List, Ordering, [], ap, arith, drop, get_or, inl, inr, length, map, refl, reverse, subst, subst₂, suc, sym, zero, ℕ, ◌-◌, ◌<◌, ◌∙◌, ◌∷◌, ◌≡◌, ◌⊎◌}
use Rattle.std.proofs.lemmas.List.{get_or-reverse, get_or_default, length-map, length-reverse}
use Rattle.std.proofs.lemmas.List.Sorted.{IsPermutation-map, IsPermutation-reverse}
use Rattle.std.specs.Prelude.{Contains}
use Rattle.residues.proofs.Congruences.{IsCongruent_of, IsCongruent_refl, IsCongruent_trans}
use Rattle.monomials.specs.Exponents.{unit}
use Rattle.formal_sums.proofs.Combining.{Each_map, IsMember_append, IsMember_scale, IsMember_through}
use Rattle.formal_sums.proofs.OfRank.{IsOfRank_member, IsOfRank_of}
use Rattle.formal_sums.proofs.Sameness.{IsSame_refl}
use Rattle.formal_sums.specs.Combinations.{IsMember}
use Rattle.formal_sums.proofs.WeightedSums.{indicator_other}
use Rattle.formal_sums.specs.FormalSums.{Each, FormalSum, HasRank, IsOfRank, Key, coefficient, indicator}
use Rattle.orders.proofs.KeyOrdering.{not_itself}
use Rattle.orders.specs.KeyOrders.{KeyDivides}
use Rattle.bases.proofs.FreeTerms.{HasFreeTerms_of_terms, lead_of_zero}
use Rattle.bases.proofs.Leading.{positive}
use Rattle.bases.proofs.NormalForms.{IsNormal_lead}
use Rattle.bases.specs.Bases.{IsCovered, IsGroebnerBasis, IsReducedBasis}
use Rattle.bases.specs.Leads.{IsLead, IsNormal, head_coefficient, head_key, leads}
use Rattle.bases.specs.Settings.{IsLawful, Setting}
use Rattle.reduced_bases.proofs.Dropping.{IsGroebnerBasis_dropped}
use Rattle.reduced_bases.proofs.Sorting.{IsReducedBasis_sorted, IsReducedSet_permuted}
use Rattle.reduced_bases.proofs.Tails.{IsReducedSet_tails}
use Rattle.reduced_bases.specs.Interreduction.{CoversLeads, HasFreeTail, IsMinimalList, IsTailReduced}
use Rattle.term_lists.proofs.Gathers.{Each_permutation}
use Rattle.term_lists.proofs.NormalVectors.{vector_normal, vector_positions}
use Rattle.term_lists.proofs.Parts.{Each_member}
use Rattle.term_lists.specs.Rings.{setting, variables}
use Rattle.term_lists.specs.Vectors.{AreVectorsOver, HasPositions, IsVectorOver, sum_of, sums_of}
use Rattle.term_lists.specs.declared.ring.Ring.{Ring}
use Rattle.module_vectors.specs.Trails.{lead_at}
use Rattle.vector_division.proofs.Members.{sums_at}
use Rattle.vector_division.specs.Divisions.{IsFreeOfLeads, IsUncovered}
use Rattle.interreduce.specs.Leads.{AreNeeded}
use Rattle.interreduce.specs.Members.{AreReducedMembers, IsReducedMember}
use Rattle.interreduce.proofs.Choosing.{apart_at}
use Rattle.interreduce.proofs.Leading.{Terms}

-- what holds of each index holds of each item
pub each_index : (P : Terms → Type 0) (xs : List Terms) → ((k : ℕ) → k < length xs → P (get_or xs k [])) → Each P xs
each_index P [] h = tt
each_index P (x ∷ xs) h = (h 0 (omega arith), each_index P xs (λ k lt. h (suc k) (omega arith)))

rank_of_positions : (n m : ℕ) (v : Terms) → HasPositions m v → HasRank m (sum_of n v)
rank_of_positions n m [] h = tt
rank_of_positions n m (t ∷ v) h = (h.0, rank_of_positions n m v h.1)

-- the chosen members, as formal sums
chosen : (n : ℕ) → List Terms → List ℕ → List (FormalSum n)
chosen n list kept = map (λ i. sum_of n (get_or list i [])) kept

length-chosen : (n : ℕ) (list : List Terms) (kept : List ℕ) → length (chosen n list kept) ≡ length kept
unfolding chosen
length-chosen n list kept = length-map kept (λ i. sum_of n (get_or list i []))

chosen_at :
    (n : ℕ) (list : List Terms) (kept : List ℕ) (k : ℕ)
    → k < length kept → get_or (chosen n list kept) k [] ≡ sum_of n (get_or list (get_or kept k 0) [])
unfolding chosen
chosen_at n list [] k lt = absurd (omega arith)
chosen_at n list (i ∷ kept) zero lt = refl
chosen_at n list (i ∷ kept) (suc k) lt = chosen_at n list kept k (omega arith)

module _ (ring : Ring) (compare : (n : ℕ) → Key n → Key n → Ordering) (lawful : (rank : ℕ) → IsLawful (setting ring (variables ring) (compare (variables ring)) rank))
    (list : List Terms) (kept : List ℕ) (members : List Terms) (reduced : AreReducedMembers ring compare list kept members) where
  -- ---- vectors and positions
  pub reduced_vectors : AreVectorsOver ring compare (reverse members)
  reduced_vectors = Each_permutation (IsVectorOver ring compare) members (reverse members) (IsPermutation-reverse members)
      (each_index (IsVectorOver ring compare) members (λ k lt. (reduced.each k lt).vector))

  pub reduced_positions : (m : ℕ) → Each (HasPositions m) list → Each (HasPositions m) (reverse members)
  reduced_positions m h = Each_permutation (HasPositions m) members (reverse members) (IsPermutation-reverse members)
      (each_index (HasPositions m) members (λ k lt.
      let r = reduced.each k lt in
      vector_positions ring compare 0 m (get_or members k []) (sum_of (variables ring) (get_or members k [])) (lawful 0) r.vector
      (IsSame_refl ring.modulus.value (sum_of (variables ring) (get_or members k [])))
      (IsOfRank_member m (sums_of (variables ring) list) ranks (sum_of (variables ring) (get_or members k [])) r.generated)))
    where
      ranks : (i : ℕ) → i < length (sums_of (variables ring) list) → IsOfRank ring.modulus.value m (get_or (sums_of (variables ring) list) i [])
      ranks i lt =
          let lt' : i < length list = subst (λ z. i < z) (length-map list (λ v. sum_of (variables ring) v)) lt in
          subst (IsOfRank ring.modulus.value m) (sym (sums_at (variables ring) list i)) (IsOfRank_of ring.modulus.value m (sum_of (variables ring) (get_or list i [])) (rank_of_positions (variables ring) m (get_or list i []) (Each_member (HasPositions m) list i [] h lt')))

  -- ---- the reduced basis
  module _ (vectors : AreVectorsOver ring compare list) (needed : AreNeeded (variables ring) (compare (variables ring)) list kept) (rank : ℕ) (F : List (FormalSum (variables ring)))
      (basis : IsGroebnerBasis (setting ring (variables ring) (compare (variables ring)) rank) F (sums_of (variables ring) list)) where
    abbrev S : Setting (variables ring)
    S = setting ring (variables ring) (compare (variables ring)) rank

    abbrev K : List (FormalSum (variables ring))
    K = chosen (variables ring) list kept

    in_kept : (k : ℕ) → k < length K → k < length kept
    in_kept k lt = subst (λ z. k < z) (length-chosen (variables ring) list kept) lt

    in_members : (k : ℕ) → k < length kept → k < length members
    in_members k lt = subst (λ z. k < z) (sym reduced.count) lt

    in_list : (k : ℕ) → k < length kept → get_or kept k 0 < length list
    in_list k lt = Each_member (λ i. i < length list) kept k 0 needed.within lt

    in_sums : (i : ℕ) → i < length list → i < length (sums_of (variables ring) list)
    in_sums i lt = subst (λ z. i < z) (sym (length-map list (λ v. sum_of (variables ring) v))) lt

    lead_of_chosen : (k : ℕ) → k < length kept → leads K k ≡ lead_at (variables ring) list (get_or kept k 0)
    lead_of_chosen k lt = ap head_key (chosen_at (variables ring) list kept k lt)

    lead_of_sums : (i : ℕ) → leads (sums_of (variables ring) list) i ≡ lead_at (variables ring) list i
    lead_of_sums i = ap head_key (sums_at (variables ring) list i)

    chosen_member : (k : ℕ) → k < length K → IsMember S.modulus F (get_or K k [])
    chosen_member k lt =
        let i = get_or kept k 0 in
        let l = in_list k (in_kept k lt) in
        subst (IsMember S.modulus F) (sums_at (variables ring) list i ∙ sym (chosen_at (variables ring) list kept k (in_kept k lt))) (basis.members i (in_sums i l))

    empty : (v : Terms) → 0 < length v → sum_of (variables ring) v ≡ [] → ⊥
    empty [] l e = omega arith
    empty (t ∷ v) l e = cc

    -- a member begins with its lead
    lead_in_list : (i : ℕ) → i < length list → 0 < length (get_or list i []) → IsLead S (sum_of (variables ring) (get_or list i [])) (lead_at (variables ring) list i)
    lead_in_list i lt some =
        IsNormal_lead S (lawful rank) (sum_of (variables ring) (get_or list i []))
        (vector_normal ring compare rank (get_or list i []) (Each_member (IsVectorOver ring compare) list i [] vectors lt))
        (empty (get_or list i []) some)

    some_in_kept : (k : ℕ) → k < length kept → 0 < length (get_or list (get_or kept k 0) [])
    some_in_kept k lt = Each_member (λ i. 0 < length (get_or list i [])) kept k 0 needed.leads lt

    lead_in_chosen : (k : ℕ) → k < length kept → IsLead S (get_or K k []) (leads K k)
    lead_in_chosen k lt = subst (λ v. IsLead S v (head_key v)) (sym (chosen_at (variables ring) list kept k lt)) (lead_in_list (get_or kept k 0) (in_list k lt) (some_in_kept k lt))

    covers : CoversLeads S K (sums_of (variables ring) list)
    covers i lt lead =
        let lt' : i < length list = subst (λ z. i < z) (length-map list (λ v. sum_of (variables ring) v)) lt in
        go (needed.covers i lt' (some_of_lead (get_or list i []) (leads (sums_of (variables ring) list) i) (subst (λ v. IsLead S v (leads (sums_of (variables ring) list) i)) (sums_at (variables ring) list i) lead)))
      where
        some_of_lead : (v : Terms) (k : Key (variables ring)) → IsLead S (sum_of (variables ring) v) k → 0 < length v
        some_of_lead [] k l = absurd (lead_of_zero S [] k refl l)
        some_of_lead (t ∷ v) k l = omega arith

        go :
            (j : ℕ) × Contains kept j × KeyDivides (lead_at (variables ring) list j) (lead_at (variables ring) list i)
            → IsCovered S K (leads (sums_of (variables ring) list) i)
        go (j, (k, l, e), d) =
            let same : get_or kept k 0 ≡ j = get_or_default kept k 0 j l ∙ e in (
              k,
              subst (λ z. k < z) (sym (length-chosen (variables ring) list kept)) l,
              lead_in_chosen k l,
              subst₂ KeyDivides (sym (lead_of_chosen k l ∙ ap (lead_at (variables ring) list) same)) (sym (lead_of_sums i)) d,
            )

    apart : (i j : ℕ) → i < length K → j < length K → (i ≡ j → ⊥) → KeyDivides (leads K j) (leads K i) → ⊥
    apart i j hi hj ne d = go (order_cases i j ne)
      where
        order_cases : (i j : ℕ) → (i ≡ j → ⊥) → (i < j) ⊎ (j < i)
        order_cases zero zero ne = absurd (ne refl)
        order_cases zero (suc j) ne = inl (omega arith)
        order_cases (suc i) zero ne = inr (omega arith)
        order_cases (suc i) (suc j) ne = next (order_cases i j (λ e. ne (ap suc e)))
          where
            next : (i < j) ⊎ (j < i) → (suc i < suc j) ⊎ (suc j < suc i)
            next (inl l) = inl (omega arith)
            next (inr l) = inr (omega arith)

        divides : KeyDivides (lead_at (variables ring) list (get_or kept j 0)) (lead_at (variables ring) list (get_or kept i 0))
        divides = subst₂ KeyDivides (lead_of_chosen j (in_kept j hj)) (lead_of_chosen i (in_kept i hi)) d

        go : (i < j) ⊎ (j < i) → ⊥
        go (inr l) = (apart_at (variables ring) (compare (variables ring)) list kept j i needed.apart l (in_kept i hi)).1 divides
        go (inl l) =
            let lower = (apart_at (variables ring) (compare (variables ring)) list kept i j needed.apart l (in_kept j hj)).0 in
            (lawful rank).order.not_below divides.0 (lead_at (variables ring) list (get_or kept j 0))
            (subst (λ z. compare (variables ring) z (lead_at (variables ring) list (get_or kept j 0)) ≡ Less) (sym divides.1) lower)

    minimal : IsMinimalList S K
    minimal = record { lead = λ i h. lead_in_chosen i (in_kept i h); apart = apart }

    -- no lead of the choice divides what no lead of the list does
    free : (k : Key (variables ring)) → IsUncovered (sums_of (variables ring) list) k → IsCovered S K k → ⊥
    free k u (j, lt, lead, d) =
        let l = in_kept j lt in
        let i = get_or kept j 0 in
        u i (in_sums i (in_list j l)) (λ e. lead_of_zero S (sum_of (variables ring) (get_or list i [])) (lead_at (variables ring) list i) (sym (sums_at (variables ring) list i) ∙ e) (lead_in_list i (in_list j l) (some_in_kept j l)))
        (subst (λ z. KeyDivides z k) (lead_of_chosen j l ∙ sym (lead_of_sums i)) d)

    free_tail :
        (k : Key (variables ring)) (v : FormalSum (variables ring))
        → head_key v ≡ k → IsFreeOfLeads (sums_of (variables ring) list) (drop 1 v) → HasFreeTail S K k v
    free_tail k [] e h l c ne = IsCongruent_refl S.modulus 0
    free_tail k (t ∷ v) e h l c ne =
        let z : indicator l t.0 ≡ 0 = indicator_other l t.0 (λ d. ne (d ∙ e)) in
        let d : coefficient (t ∷ v) l ≡ coefficient v l = rw z (omega arith) in
        IsCongruent_trans (IsCongruent_of S.modulus _ _ d)
        (HasFreeTerms_of_terms S K v (Each_map _ _ v (λ u q. free u.0 q) h) l c)

    tails : IsTailReduced S F K (sums_of (variables ring) members)
    tails = record {
      lengths = length-map members (λ v. sum_of (variables ring) v) ∙ reduced.count ∙ sym (length-chosen (variables ring) list kept);
      leads_kept = λ i lt. ap head_key (sums_at (variables ring) members i) ∙ (at i lt).lead ∙ sym (lead_of_chosen i (in_kept i lt));
      differs = λ i lt.
          IsMember_append F _ _
          (subst (IsMember S.modulus F) (sym (sums_at (variables ring) members i)) (IsMember_through (positive S (lawful rank)) F (sums_of (variables ring) list) basis.members (sum_of (variables ring) (get_or members i [])) (at i lt).generated))
          (IsMember_scale (positive S (lawful rank)) F (S.modulus - 1) (unit (variables ring)) (get_or K i []) (chosen_member i lt));
      normal = λ i lt. subst (IsNormal S) (sym (sums_at (variables ring) members i)) (vector_normal ring compare rank (get_or members i []) (at i lt).vector);
      monic = λ i lt. ap head_coefficient (sums_at (variables ring) members i) ∙ (at i lt).monic;
      tails = λ i lt. subst (HasFreeTail S K (leads K i)) (sym (sums_at (variables ring) members i)) (free_tail (leads K i) (sum_of (variables ring) (get_or members i [])) ((at i lt).lead ∙ sym (lead_of_chosen i (in_kept i lt))) (at i lt).tail);
    }
      where
        at : (i : ℕ) → i < length K → IsReducedMember ring compare list (get_or kept i 0) (get_or members i [])
        at i lt = reduced.each i (in_members i (in_kept i lt))

    descends :
        (i : ℕ)
        → suc i < length (sums_of (variables ring) (reverse members))
        → S.compare (leads (sums_of (variables ring) (reverse members)) i) (leads (sums_of (variables ring) (reverse members)) (suc i)) ≡ Less
        → ⊥
    descends i lt less =
        let c = length members in
        let lt' : suc i < c = subst (λ z. suc i < z) (length-map (reverse members) (λ v. sum_of (variables ring) v) ∙ length-reverse members) lt in
        let a = c - 1 - suc i in
        let b = c - 1 - i in
        let ha : a < length members = omega arith in
        let hb : b < length members = omega arith in
        let lower = (apart_at (variables ring) (compare (variables ring)) list kept a b needed.apart (omega arith) (subst (λ z. b < z) reduced.count hb)).0 in
        let la : leads (sums_of (variables ring) (reverse members)) (suc i) ≡ lead_at (variables ring) list (get_or kept a 0) = lead_back (suc i) lt' in
        let lb : leads (sums_of (variables ring) (reverse members)) i ≡ lead_at (variables ring) list (get_or kept b 0) = lead_back i (omega arith) in
        not_itself (lawful rank).order (lead_at (variables ring) list (get_or kept a 0))
        ((lawful rank).order.total.trans _ (lead_at (variables ring) list (get_or kept b 0)) _ lower (subst₂ (λ x y. compare (variables ring) x y ≡ Less) lb la less))
      where
        lead_back : (k : ℕ) → k < length members → leads (sums_of (variables ring) (reverse members)) k ≡ lead_at (variables ring) list (get_or kept (length members - 1 - k) 0)
        lead_back k lt =
            ap head_key (sums_at (variables ring) (reverse members) k)
            ∙ ap (λ v. head_key (sum_of (variables ring) v)) (get_or-reverse members k [] lt)
            ∙ (reduced.each (length members - 1 - k) (omega arith)).lead

    pub reduced_basis : IsReducedBasis S F (sums_of (variables ring) (reverse members))
    reduced_basis =
        IsReducedBasis_sorted S (lawful rank) F (sums_of (variables ring) (reverse members))
        (IsReducedSet_permuted S F (sums_of (variables ring) members) (sums_of (variables ring) (reverse members))
        (IsReducedSet_tails S (lawful rank) F K (sums_of (variables ring) members) (IsGroebnerBasis_dropped S F (sums_of (variables ring) list) K basis chosen_member covers) minimal tails)
        (IsPermutation-map (λ v. sum_of (variables ring) v) members (reverse members) (IsPermutation-reverse members)))
        descends
