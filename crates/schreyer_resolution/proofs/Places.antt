-- A reduced basis sorted by the places of its leads
use Rattle.std.proofs.Common.{Equal, Greater, Less, List, Ordering, [], ap, ap₂, arith, false, get_or, length, refl, subst, sym, ℕ, ◌<◌, ◌∙◌, ◌∷◌, ◌≡◌}
use Rattle.std.proofs.lemmas.Cmp.{back_total, nat_cmp_total, nat_list_cmp_total, on_total, ranked, then_total}
use Rattle.std.proofs.lemmas.List.{length-map}
use Rattle.std.proofs.lemmas.List.Sorted.{IsPermutation-map, length_permutation, ranks_by, sorted_far}
use Rattle.std.specs.Cmp.{IsStrictWeakOrder, IsTotalOrder}
use Rattle.std.specs.Cmp.Lexicographic.{slice_cmp}
use Rattle.std.specs.List.Sorted.{IsPermutation, IsSortedBy}
use Rattle.std.specs.Ordering.{is_lt, nat_cmp, ordering_then}
use Rattle.monomials.specs.Exponents.{exponents_of}
use Rattle.formal_sums.proofs.Combining.{IsMember_itself, IsMember_through}
use Rattle.formal_sums.proofs.OfRank.{IsOfRank_of}
use Rattle.formal_sums.specs.FormalSums.{Each, FormalSum, HasRank, IsOfRank, coefficient}
use Rattle.orders.proofs.Lexicographic.{lex_order}
use Rattle.orders.specs.KeyOrders.{KeyDivides, pot}
use Rattle.orders.specs.MonomialOrders.{lex}
use Rattle.bases.proofs.Leading.{one_not_zero, positive}
use Rattle.bases.specs.Bases.{IsReducedBasis, IsReducedSet}
use Rattle.bases.specs.Leads.{head_key, leads}
use Rattle.bases.specs.Settings.{IsLawful, Setting}
use Rattle.residues.proofs.Congruences.{IsCongruent_of, IsCongruent_sym, IsCongruent_trans}
use Rattle.reduced_bases.proofs.Sorting.{IsReducedSet_permuted}
use Rattle.reduced_bases.proofs.Dropping.{KeyDivides_refl}
use Rattle.resolution_laws.proofs.Bound.{IsMonicList_reduced}
use Rattle.resolution_laws.specs.Resolutions.{IsCanonicalMap}
use Rattle.monomial_orders.proofs.Comparing.{lex-slice}
use Rattle.term_lists.proofs.Gathers.{Each_permutation}
use Rattle.term_lists.proofs.Parts.{Each_member}
use Rattle.term_lists.specs.Rings.{ring_comparison, setting, variables}
use Rattle.term_lists.specs.Vectors.{AreVectorsOver, HasPositions, IsVectorOver, key_of, sum_of, sums_of}
use Rattle.term_lists.specs.declared.key.Key.{Key as CodeKey}
use Rattle.term_lists.specs.declared.ring.Ring.{Ring}
use Rattle.vector_division.proofs.Members.{sums_at}
use Rattle.schreyer_resolution.specs.Progress.{IsTopMap}
use Rattle.schreyer_resolution.specs.Sorting.{by_place, lead_place}

abbrev Terms : Type 0
Terms = List (CodeKey × ℕ)

places_total : IsTotalOrder (λ (k l : ℕ × List ℕ). ordering_then (nat_cmp k.0 l.0) (slice_cmp nat_cmp l.1 k.1))
places_total = then_total (on_total (λ k. k.0) nat_cmp_total) (on_total (λ k. k.1) (back_total nat_list_cmp_total))

pub by_place_weak : IsStrictWeakOrder (λ v w. is_lt (by_place v w))
by_place_weak = ranks_by places_total lead_place

-- what is not above in place is above in the order of columns, or has the same lead
place_order :
    (n : ℕ) (s t : CodeKey × ℕ) → length s.0.monomial.exponents ≡ n → length t.0.monomial.exponents ≡ n
    → is_lt (ordering_then (nat_cmp t.0.position s.0.position) (slice_cmp nat_cmp s.0.monomial.exponents t.0.monomial.exponents)) ≡ false
    → (key_of n s.0 ≡ key_of n t.0 → ⊥)
    → pot lex (key_of n s.0) (key_of n t.0) ≡ Greater
place_order n s t hs ht e ne = go (nat_cmp t.0.position s.0.position) refl (lex (exponents_of n s.0.monomial.exponents) (exponents_of n t.0.monomial.exponents)) refl
  where
    told : is_lt (ordering_then (nat_cmp t.0.position s.0.position) (lex (exponents_of n s.0.monomial.exponents) (exponents_of n t.0.monomial.exponents))) ≡ false
    told = ap (λ o. is_lt (ordering_then (nat_cmp t.0.position s.0.position) o)) (sym (lex-slice n s.0.monomial.exponents t.0.monomial.exponents hs ht)) ∙ e

    go :
        (a : Ordering) → nat_cmp t.0.position s.0.position ≡ a → (b : Ordering) → lex (exponents_of n s.0.monomial.exponents) (exponents_of n t.0.monomial.exponents) ≡ b
        → pot lex (key_of n s.0) (key_of n t.0) ≡ Greater
    go Greater ea b eb = ap (λ o. ordering_then o (lex (exponents_of n s.0.monomial.exponents) (exponents_of n t.0.monomial.exponents))) ea
    go Less ea b eb = absurd (let x : is_lt (ordering_then Less (lex (exponents_of n s.0.monomial.exponents) (exponents_of n t.0.monomial.exponents))) ≡ false = ap (λ o. is_lt (ordering_then o (lex (exponents_of n s.0.monomial.exponents) (exponents_of n t.0.monomial.exponents)))) (sym ea) ∙ told in cc)
    go Equal ea Greater eb = ap₂ ordering_then ea eb
    go Equal ea Less eb = absurd (let x : is_lt (ordering_then Equal Less) ≡ false = ap₂ (λ o u. is_lt (ordering_then o u)) (sym ea) (sym eb) ∙ told in cc)
    go Equal ea Equal eb = absurd (ne (ap₂ (λ x y. (x, y)) (sym (ranked t.0.position s.0.position Equal (sym ea))) ((lex_order n).exact (exponents_of n s.0.monomial.exponents) (exponents_of n t.0.monomial.exponents) eb)))

-- the rank of what a vector of the code stands for
ranked_terms : (n rank : ℕ) (v : Terms) → HasPositions rank v → HasRank rank (sum_of n v)
ranked_terms n rank [] h = tt
ranked_terms n rank (t ∷ v) h = (h.0, ranked_terms n rank v h.1)

pub ranks_of :
    (ring : Ring) (rank : ℕ) (list : List Terms) → Each (HasPositions rank) list
    → (i : ℕ) → i < length (sums_of (variables ring) list) → IsOfRank ring.modulus.value rank (get_or (sums_of (variables ring) list) i [])
ranks_of ring rank list h i lt =
    let l : i < length list = omega (arith, lt, length-map list (λ v. sum_of (variables ring) v)) in
    subst (IsOfRank ring.modulus.value rank) (sym (sums_at (variables ring) list i)) (IsOfRank_of ring.modulus.value rank _ (ranked_terms (variables ring) rank (get_or list i []) (Each_member (HasPositions rank) list i [] h l)))

module _ (ring : Ring) (rank : ℕ) (lawful : IsLawful (setting ring (variables ring) (ring_comparison ring (variables ring)) rank)) (reduced columns : List Terms)
    (vectors : AreVectorsOver ring (ring_comparison ring) reduced) (positions : Each (HasPositions rank) reduced)
    (basis : IsReducedBasis (setting ring (variables ring) (ring_comparison ring (variables ring)) rank) (sums_of (variables ring) reduced) (sums_of (variables ring) reduced))
    (some : 0 < length reduced) (moved : IsPermutation reduced columns) (sorted : IsSortedBy (λ v w. is_lt (by_place v w)) columns) where
  abbrev S : Setting (variables ring)
  S = setting ring (variables ring) (ring_comparison ring (variables ring)) rank

  abbrev A : List (FormalSum (variables ring))
  A = sums_of (variables ring) reduced

  abbrev H : List (FormalSum (variables ring))
  H = sums_of (variables ring) columns

  set : IsReducedSet S A H
  set = IsReducedSet_permuted S A A H basis.reduced (IsPermutation-map (λ v. sum_of (variables ring) v) reduced columns moved)

  column_vectors : AreVectorsOver ring (ring_comparison ring) columns
  column_vectors = Each_permutation (IsVectorOver ring (ring_comparison ring)) reduced columns moved vectors

  column_positions : Each (HasPositions rank) columns
  column_positions = Each_permutation (HasPositions rank) reduced columns moved positions

  in_columns : (i : ℕ) → i < length H → i < length columns
  in_columns i lt = omega (arith, lt, length-map columns (λ v. sum_of (variables ring) v))

  rank_of_positions : (v : Terms) → HasPositions rank v → HasRank rank (sum_of (variables ring) v)
  rank_of_positions [] h = tt
  rank_of_positions (t ∷ v) h = (h.0, rank_of_positions v h.1)

  ranks : (i : ℕ) → i < length H → IsOfRank S.modulus S.rank (get_or H i [])
  ranks i lt = subst (IsOfRank S.modulus S.rank) (sym (sums_at (variables ring) columns i)) (IsOfRank_of S.modulus S.rank _ (rank_of_positions (get_or columns i []) (Each_member (HasPositions rank) columns i [] column_positions (in_columns i lt))))

  pub sorted_top : IsTopMap ring [] columns
  sorted_top = record {
    vectors = column_vectors;
    base = record {
      rank = rank;
      monic = IsMonicList_reduced S lawful A H ranks set;
      basis = record {
        members = IsMember_itself S.modulus H;
        covers = λ v k m lead. set.basis.covers v k (IsMember_through (positive S lawful) A H set.basis.members v m) lead;
      };
    };
  }

  -- two leads of the set are apart
  leads_apart : (i j : ℕ) → i < length H → j < length H → (i ≡ j → ⊥) → leads H i ≡ leads H j → ⊥
  leads_apart i j hi hj ne e =
      one_not_zero S lawful (IsCongruent_trans (IsCongruent_sym (set.monic i hi).one) (set.apart i j (leads H i) hi hj ne (subst (KeyDivides (leads H j)) (sym e) (KeyDivides_refl (leads H j)))))

  descends : (i j : ℕ) → i < j → j < length H → pot lex (leads H i) (leads H j) ≡ Greater
  descends i j lt hj = go (get_or columns i []) (get_or columns j []) refl refl
    where
      li : i < length H
      li = omega (arith, lt, hj)

      far : is_lt (by_place (get_or columns j []) (get_or columns i [])) ≡ false
      far = sorted_far (λ v w. is_lt (by_place v w)) by_place_weak columns sorted i j [] (omega arith) (in_columns j hj)

      lead_of : (i : ℕ) → leads H i ≡ head_key (sum_of (variables ring) (get_or columns i []))
      lead_of i = ap head_key (sums_at (variables ring) columns i)

      vector_at : (i : ℕ) → i < length H → IsVectorOver ring (ring_comparison ring) (get_or columns i [])
      vector_at i h = Each_member (IsVectorOver ring (ring_comparison ring)) columns i [] column_vectors (in_columns i h)

      nonzero : (i : ℕ) → i < length H → get_or columns i [] ≡ [] → ⊥
      nonzero i h e = one_not_zero S lawful (IsCongruent_sym (IsCongruent_trans (IsCongruent_of S.modulus _ _ (ap (λ (x : Terms). coefficient (sum_of (variables ring) x) (leads H i)) (sym e) ∙ ap (λ x. coefficient x (leads H i)) (sym (sums_at (variables ring) columns i)))) (set.monic i h).one))

      go : (v w : Terms) → get_or columns i [] ≡ v → get_or columns j [] ≡ w → pot lex (leads H i) (leads H j) ≡ Greater
      go [] w ev ew = absurd (nonzero i li ev)
      go (s ∷ v) [] ev ew = absurd (nonzero j hj ew)
      go (s ∷ v) (t ∷ w) ev ew =
          let is = lead_of i ∙ ap (λ (x : Terms). head_key (sum_of (variables ring) x)) ev in
          let it = lead_of j ∙ ap (λ (x : Terms). head_key (sum_of (variables ring) x)) ew in
          ap₂ (pot lex) is it
          ∙ place_order (variables ring) s t (subst (IsVectorOver ring (ring_comparison ring)) ev (vector_at i li)).each.0.weighed.variables (subst (IsVectorOver ring (ring_comparison ring)) ew (vector_at j hj)).each.0.weighed.variables
          (ap₂ (λ x y. is_lt (by_place x y)) (sym ew) (sym ev) ∙ far) (λ e. leads_apart i j li hj (λ q. omega (arith, q, lt)) (is ∙ e ∙ sym it))

  pub sorted_canonical : IsCanonicalMap S A H
  sorted_canonical = record {
    columns = omega (arith, some, length_permutation reduced columns moved, length-map columns (λ v. sum_of (variables ring) v));
    basis = record { reduced = set; descends = descends };
  }
