-- A column by a division that takes the last divisors
use Rattle.std.proofs.Common.{Equal, Greater, Less, List, Ordering, [], ap, ap₂, append-nil, arith, eqb-true, false, get_or, inl, inr, length, map, mod-lt, refl, subst, suc, sym, true, true≢false, ℕ, ◌%◌, ◌*◌, ◌++◌, ◌+◌, ◌-◌, ◌<◌, ◌==◌, ◌≤◌, ◌∙◌, ◌∷◌, ◌≡◌, ◌⊎◌}
use Rattle.std.proofs.lemmas.Bool.{cases_lt}
use Rattle.std.proofs.lemmas.Bool.Decides.{nat_tests}
use Rattle.std.proofs.lemmas.List.{length-map}
use Rattle.std.specs.Ordering.{nat_cmp, ordering_then}
use Rattle.residues.proofs.Congruences.{IsCongruent_add, IsCongruent_cancel, IsCongruent_minus, IsCongruent_mod, IsCongruent_multiply, IsCongruent_of, IsCongruent_refl, IsCongruent_sym, IsCongruent_trans}
use Rattle.residues.specs.Residues.{IsCongruent}
use Rattle.monomials.proofs.Monomials.{times-quotient, times-quotient_right}
use Rattle.monomials.specs.Exponents.{exponents_of, lcm, quotient, times, unit}
use Rattle.formal_sums.proofs.Combining.{IsMember_itself, IsMember_scale, IsSame_combination, combination-scale}
use Rattle.formal_sums.proofs.OfRank.{IsOfRank_of, IsSyzygy_same}
use Rattle.formal_sums.proofs.Sameness.{IsSame_append, IsSame_of, IsSame_refl, IsSame_scale, IsSame_sym, IsSame_trans, shift-unit, weighted_sum-minus}
use Rattle.formal_sums.specs.Combinations.{IsMember, IsSyzygy, combination}
use Rattle.formal_sums.specs.FormalSums.{Each, FormalSum, HasRank, IsSame, Key, coefficient, indicator, scale, shift}
use Rattle.orders.proofs.KeyOrdering.{greater_of_less}
use Rattle.orders.specs.KeyOrders.{Descends, KeyDivides, induced}
use Rattle.bases.proofs.Leading.{IsLead_of_monic, IsLead_same, IsLead_scale, lead_unique, one_not_zero, positive}
use Rattle.bases.specs.Leads.{IsLead, IsMonicList, IsNormal, head_key, leads}
use Rattle.bases.specs.Settings.{IsLawful, Setting}
use Rattle.syzygy_laws.specs.Syzygies.{induced_setting}
use Rattle.monomial_orders.specs.Kept.{IsWeighed}
use Rattle.term_lists.proofs.NormalVectors.{residues_of, vector_lead, vector_positions}
use Rattle.term_lists.specs.Rings.{setting, variables}
use Rattle.term_lists.specs.Vectors.{HasPositions, IsVectorOver, StandsFor, key_of, sum_of, sums_of}
use Rattle.term_lists.specs.declared.key.Key.{Key as CodeKey}
use Rattle.term_lists.specs.declared.ring.Ring.{Ring}
use Rattle.module_vectors.specs.Trails.{kept_product_lead}
use Rattle.vector_division.proofs.Members.{sums_at}
use Rattle.vector_division.specs.Reductions.{HaveLeadsUpTo, IsScaledProduct, cofactors_of, unscaled}
use Rattle.vector_division.specs.declared.reduction.ScaledProduct.{ScaledProduct}
use Rattle.resolution_maps.specs.Inducing.{Tower, tower_comparison}
use Rattle.induced_leads.specs.PairLeads.{IsPairKey}
use Rattle.schreyer_resolution.proofs.Canonical.{column_of}
use Rattle.schreyer_resolution.specs.Columns.{IsColumnOf, IsProductDivided, IsProductOf, negated_term}
use Rattle.schreyer_resolution.specs.Steps.{IsLastDivisor}

abbrev Terms : Type 0
Terms = List (CodeKey × ℕ)

-- a vector less itself
none_left : {n : ℕ} (p : ℕ) (v : FormalSum n) → 0 < p → IsSame p (v ++ scale (p - 1) (unit n) v) []
none_left {n} p v pos = record { by_key = λ k. rw (weighted_sum-minus p (indicator k) v v) (IsCongruent_minus p (coefficient v k) pos) }

-- ---- a residue with the other sign
minus_residue : (p c : ℕ) → 0 < p → c < p → IsCongruent p ((p - c) % p) ((p - 1) * c)
minus_residue p c pos lt = IsCongruent_trans (IsCongruent_mod p (p - c)) (IsCongruent_cancel pos c (IsCongruent_trans (IsCongruent_of p _ _ whole) (IsCongruent_trans (IsCongruent_minus p 1 pos) (IsCongruent_sym (IsCongruent_minus p c pos)))))
  where
    whole : c + (p - c) ≡ 1 + (p - 1) * 1
    whole = omega arith

-- terms by negated residues are the multiple by p - 1
pub negated : {n : ℕ} → ℕ → FormalSum n → FormalSum n
negated p [] = []
negated p (t ∷ a) = (t.0, (p - t.1) % p) ∷ negated p a

pub negated_same : {n : ℕ} (p : ℕ) (a : FormalSum n) → 0 < p → Each (λ t. t.1 < p) a → IsSame p (negated p a) (scale (p - 1) (unit n) a)
unfolding negated
negated_same p [] pos h = IsSame_refl p []
negated_same {n} p (t ∷ a) pos h = record {
  by_key = λ k. IsCongruent_add (subst (λ l. IsCongruent p ((p - t.1) % p * indicator k t.0) ((p - 1) * t.1 * indicator k l)) (sym (shift-unit t.0)) (IsCongruent_multiply (minus_residue p t.1 pos h.0) (IsCongruent_refl p (indicator k t.0)))) ((negated_same p a pos h.1).by_key k);
}

module _ {n : ℕ} (S : Setting n) (lawful : IsLawful S) (F : List (FormalSum n)) (list : IsMonicList S F) (k : Key n) (pair : IsPairKey F k) where
  abbrev p : ℕ
  p = S.modulus

  abbrev T : Setting n
  T = induced_setting S F

  -- the product that is divided
  abbrev top : FormalSum n
  top = scale 1 k.1 (get_or F k.0 [])

  abbrev top_lead : Key n
  top_lead = shift k.1 (leads F k.0)

  pub inside : k.0 < length F
  inside = let a = pair.after in let b = pair.inside in omega (arith, a, b)

  pub top_is_led : IsLead S top top_lead
  top_is_led = IsLead_scale S lawful 1 k.1 (get_or F k.0 []) (leads F k.0) (one_not_zero S lawful) (IsLead_of_monic S lawful (list.monic k.0 inside))

  pub top_member : IsMember p F top
  top_member = IsMember_scale (positive S lawful) F 1 k.1 (get_or F k.0 []) (IsMember_itself p F k.0 inside)

  -- the later member of the pair divides the lead of the product
  later_divides : KeyDivides (leads F pair.later) top_lead
  later_divides =
      let a = (leads F k.0).1 in
      let b = (leads F pair.later).1 in
      let m : k.1 ≡ quotient (lcm a b) a = ap (λ z. z.1) pair.is in (
        quotient (lcm a b) b,
        ap₂ (λ x y. (x, y)) (sym pair.position) (times-quotient_right a b ∙ sym (times-quotient a b) ∙ ap (λ z. times z a) (sym m)),
      )

  -- a term of a quotient stands below the lead of the column
  module _ (q : Key n) (last : IsLastDivisor F q) (up_to : S.compare (shift q.1 (leads F q.0)) top_lead ≡ Greater → ⊥) where
    pub below_lead : T.compare k q ≡ Greater
    below_lead = go (S.compare top_lead (shift q.1 (leads F q.0))) refl
      where
        greater : (a b : ℕ) → a < b → nat_cmp b a ≡ Greater
        greater a b lt = grind (arith, nat_tests)

        after : top_lead ≡ shift q.1 (leads F q.0) → (q.0 < pair.later) ⊎ (pair.later ≤ q.0) → k.0 < q.0
        after e (inl lt) = absurd (last pair.later lt pair.inside (subst (KeyDivides (leads F pair.later)) e later_divides))
        after e (inr le) = let a = pair.after in omega (arith, a, le)

        go : (o : Ordering) → S.compare top_lead (shift q.1 (leads F q.0)) ≡ o → T.compare k q ≡ Greater
        go Less e = absurd (up_to (greater_of_less lawful.order top_lead (shift q.1 (leads F q.0)) e))
        go Greater e = ap (λ o. ordering_then o (nat_cmp q.0 k.0)) e
        go Equal e =
            let lt : k.0 < q.0 = after (lawful.order.exact top_lead (shift q.1 (leads F q.0)) e) (cases_lt q.0 pair.later) in
            ap (λ o. ordering_then o (nat_cmp q.0 k.0)) e ∙ greater k.0 q.0 lt

  -- ---- the column's terms
  module _ (cofactors : FormalSum n) (rank : HasRank (length F) cofactors) (reduced : Each (λ t. t.1 < p) cofactors)
      (quotients : IsSame p top (combination F cofactors)) where
    negated_rank : (a : FormalSum n) → HasRank (length F) a → HasRank (length F) (negated p a)
    unfolding negated
    negated_rank [] h = tt
    negated_rank (t ∷ a) h = (h.0, negated_rank a h.1)

    tail_sum : IsSame p (combination F (negated p cofactors)) (scale (p - 1) (unit n) top)
    tail_sum =
        IsSame_trans (IsSame_combination (positive S lawful) F (negated p cofactors) (scale (p - 1) (unit n) cofactors) (negated_same p cofactors (positive S lawful) reduced))
        (IsSame_trans (IsSame_of p _ _ (combination-scale F (p - 1) (unit n) cofactors))
        (IsSame_scale (positive S lawful) (p - 1) (unit n) (IsSame_sym quotients)))

    pub whole_rank : HasRank (length F) ((k, 1) ∷ negated p cofactors)
    whole_rank = (inside, negated_rank cofactors rank)

    pub whole_syzygy : IsSyzygy p F ((k, 1) ∷ negated p cofactors)
    whole_syzygy = record {
      rank = IsOfRank_of p (length F) ((k, 1) ∷ negated p cofactors) whole_rank;
      vanishes = IsSame_trans (IsSame_append (IsSame_refl p top) tail_sum) (none_left p top (positive S lawful));
    }

-- the terms of quotients with the other sign
pub terms_negated : (n p : ℕ) (xs : List ScaledProduct) → sum_of n (map (negated_term p) xs) ≡ negated p (cofactors_of n xs)
unfolding negated
terms_negated n p [] = refl
terms_negated n p (q ∷ xs) = ap (λ z. ((q.index, exponents_of n q.monomial.exponents), (p - q.residue) % p) ∷ z) (terms_negated n p xs)

-- ---- from the code's lists
module _ (ring : Ring) (compare : (n : ℕ) → Key n → Key n → Ordering) (rank : ℕ) (lawful : IsLawful (setting ring (variables ring) (compare (variables ring)) rank)) (cols : List Terms)
    (monic : IsMonicList (setting ring (variables ring) (compare (variables ring)) rank) (sums_of (variables ring) cols))
    (key : CodeKey) (pair : IsPairKey (sums_of (variables ring) cols) (key_of (variables ring) key)) where
  abbrev n : ℕ
  n = variables ring

  abbrev S : Setting (variables ring)
  S = setting ring (variables ring) (compare (variables ring)) rank

  abbrev F : List (FormalSum (variables ring))
  F = sums_of (variables ring) cols

  abbrev kk : Key (variables ring)
  kk = key_of (variables ring) key

  pub count : length F ≡ length cols
  count = length-map cols (λ v. sum_of (variables ring) v)

  at_index : (i : ℕ) → leads F i ≡ head_key (sum_of (variables ring) (get_or cols i []))
  at_index i = ap head_key (sums_at (variables ring) cols i)

  -- the product of the key's monomial and its column
  module _ (v : Terms) (product : IsProductOf ring compare cols key v) where
    pub v_top : IsSame S.modulus (sum_of (variables ring) v) (top S lawful F monic kk pair)
    v_top = subst (λ w. IsSame S.modulus (sum_of (variables ring) v) (scale 1 (exponents_of (variables ring) key.monomial.exponents) w)) (sym (sums_at (variables ring) cols key.position)) product.is

    pub v_lead : head_key (sum_of (variables ring) v) ≡ top_lead S lawful F monic kk pair
    v_lead = go v refl
      where
        led : IsLead S (sum_of (variables ring) v) (top_lead S lawful F monic kk pair)
        led = IsLead_same S (IsSame_sym v_top) (top_is_led S lawful F monic kk pair)

        go : (w : Terms) → v ≡ w → head_key (sum_of (variables ring) v) ≡ top_lead S lawful F monic kk pair
        go [] e = absurd (led.nonzero (IsCongruent_of S.modulus _ 0 (ap (λ (x : Terms). coefficient (sum_of (variables ring) x) (top_lead S lawful F monic kk pair)) e)))
        go (t ∷ w) e =
            ap (λ (x : Terms). head_key (sum_of (variables ring) x)) e
            ∙ lead_unique S lawful (sum_of (variables ring) v) (key_of (variables ring) t.0) (top_lead S lawful F monic kk pair)
            (subst (λ (x : Terms). IsLead S (sum_of (variables ring) x) (key_of (variables ring) t.0)) (sym e) (vector_lead ring compare rank t w lawful (subst (IsVectorOver ring compare) e product.vector))) led

    pub v_member : IsMember S.modulus F (sum_of (variables ring) v)
    v_member =
        let t = top_member S lawful F monic kk pair in
        record { cofactors = t.cofactors; positions = t.positions; sums = IsSame_trans t.sums (IsSame_sym v_top) }

  cof_rank : (xs : List ScaledProduct) → Each (IsScaledProduct (variables ring) ring.weights ring.modulus.value cols) xs → HasRank (length F) (cofactors_of (variables ring) xs)
  cof_rank [] h = tt
  cof_rank (q ∷ xs) h = (let i = h.0.index in omega (arith, i, count), cof_rank xs h.1)

  cof_reduced : (xs : List ScaledProduct) → Each (IsScaledProduct (variables ring) ring.weights ring.modulus.value cols) xs → Each (λ t. t.1 < ring.modulus.value) (cofactors_of (variables ring) xs)
  cof_reduced [] h = tt
  cof_reduced (q ∷ xs) h = (h.0.reduced, cof_reduced xs h.1)

  -- nothing is left
  module _ (qs : List ScaledProduct) (u : IsProductDivided ring compare cols key qs) where
    abbrev v : Terms
    v = u.product

    quotients : IsSame S.modulus (top S lawful F monic kk pair) (combination F (cofactors_of (variables ring) qs))
    quotients =
        IsSame_trans (IsSame_sym (v_top v u.of_column))
        (subst (IsSame S.modulus (sum_of (variables ring) v)) (append-nil (combination F (cofactors_of (variables ring) qs))) u.progress.sum)

    ranked : HasRank (length F) ((kk, 1) ∷ negated S.modulus (cofactors_of (variables ring) qs))
    ranked = whole_rank S lawful F monic kk pair (cofactors_of (variables ring) qs) (cof_rank qs u.progress.underway.quotients) (cof_reduced qs u.progress.underway.quotients) quotients

    is_syzygy : IsSyzygy S.modulus F ((kk, 1) ∷ negated S.modulus (cofactors_of (variables ring) qs))
    is_syzygy = whole_syzygy S lawful F monic kk pair (cofactors_of (variables ring) qs) (cof_rank qs u.progress.underway.quotients) (cof_reduced qs u.progress.underway.quotients) quotients

    one_below :
        (q : ScaledProduct) → IsLastDivisor F (q.index, exponents_of (variables ring) q.monomial.exponents)
        → (compare (variables ring) (kept_product_lead (variables ring) cols (unscaled q)) (head_key (sum_of (variables ring) v)) ≡ Greater → ⊥)
        → ((induced_setting S F).compare kk (q.index, exponents_of (variables ring) q.monomial.exponents) ≡ Greater) × IsLastDivisor F (q.index, exponents_of (variables ring) q.monomial.exponents)
    one_below q last up = (
      below_lead S lawful F monic kk pair (q.index, exponents_of (variables ring) q.monomial.exponents) last
          (λ e. up (ap₂ (compare (variables ring)) (ap (shift (exponents_of (variables ring) q.monomial.exponents)) (sym (at_index q.index))) (v_lead v u.of_column) ∙ e)),
      last,
    )

    all_below :
        (xs : List ScaledProduct) → Each (λ q. IsLastDivisor F (q.index, exponents_of (variables ring) q.monomial.exponents)) xs
        → HaveLeadsUpTo (variables ring) (compare (variables ring)) cols (head_key (sum_of (variables ring) v)) xs
        → Each (λ t. ((induced_setting S F).compare kk t.0 ≡ Greater) × IsLastDivisor F t.0) (negated S.modulus (cofactors_of (variables ring) xs))
    unfolding negated
    all_below [] h b = tt
    all_below (q ∷ xs) h b = (one_below q h.0 b.0, all_below xs h.1 b.1)

    stands : (w items : Terms) → items ≡ (key, 1) ∷ map (negated_term ring.modulus.value) qs → StandsFor ring w (sum_of (variables ring) items)
        → IsSame S.modulus (sum_of (variables ring) w) ((kk, 1) ∷ negated S.modulus (cofactors_of (variables ring) qs))
    stands w items is sw = subst (IsSame S.modulus (sum_of (variables ring) w)) (ap (sum_of (variables ring)) is ∙ ap (λ z. (kk, 1) ∷ z) (terms_negated (variables ring) ring.modulus.value qs)) sw

    -- a vector in the order above that stands for the column's terms is the column
    pub column_is :
        (t : Tower) (w items : Terms) → tower_comparison t (variables ring) ≡ induced (compare (variables ring)) (leads F)
        → items ≡ (key, 1) ∷ map (negated_term ring.modulus.value) qs
        → IsVectorOver ring (tower_comparison t) w → StandsFor ring w (sum_of (variables ring) items)
        → IsColumnOf ring compare cols key w
    column_is t w items above is hw sw =
        let normal : IsNormal (induced_setting S F) (sum_of (variables ring) w) =
        record { descends = subst (λ o. Descends o (sum_of (variables ring) w)) above hw.descends; residues = residues_of (variables ring) ring.weights ring.modulus.value w hw.each } in
        let same = stands w items is sw in
        let c = column_of S lawful F monic kk (negated S.modulus (cofactors_of (variables ring) qs)) (all_below qs u.last u.progress.underway.bounded) (sum_of (variables ring) w) normal same
        (IsSyzygy_same (positive S lawful) F _ (sum_of (variables ring) w) (IsSame_sym same) is_syzygy) in
        record { lead = c.lead; one = c.one; normal = c.normal; syzygy = c.syzygy; last = c.last }

    -- and its positions are those of the columns
    pub column_positions :
        (t : Tower) (w items : Terms) → IsLawful (setting ring (variables ring) (tower_comparison t (variables ring)) rank)
        → items ≡ (key, 1) ∷ map (negated_term ring.modulus.value) qs
        → IsVectorOver ring (tower_comparison t) w → StandsFor ring w (sum_of (variables ring) items) → HasPositions (length cols) w
    column_positions t w items up is hw sw =
        subst (λ m. HasPositions m w) count
        (vector_positions ring (tower_comparison t) rank (length F) w ((kk, 1) ∷ negated S.modulus (cofactors_of (variables ring) qs)) up hw (stands w items is sw)
        (IsOfRank_of S.modulus (length F) _ ranked))

-- ---- what the calls ask for
pub terms_over :
    (n : ℕ) (ws : List ℕ) (p : ℕ) (key : CodeKey) (qs : List ScaledProduct) (list : List Terms) → 1 < p → IsWeighed n ws key.monomial → Each (IsScaledProduct n ws p list) qs
    → Each (λ t. IsWeighed n ws t.0.monomial × (t.1 < p)) ((key, 1) ∷ map (negated_term p) qs)
terms_over n ws p key qs list one w h = ((w, one), rest qs h)
  where
    rest : (xs : List ScaledProduct) → Each (IsScaledProduct n ws p list) xs → Each (λ t. IsWeighed n ws t.0.monomial × (t.1 < p)) (map (negated_term p) xs)
    rest [] h = tt
    rest (q ∷ xs) h = let pos : 0 < p = omega (arith, one) in ((h.0.variables, mod-lt (p - q.residue) pos), rest xs h.1)

pub no_terms : {X : Type 0} (xs : List X) → (length xs == 0) ≡ true → xs ≡ []
no_terms [] e = refl
no_terms (x ∷ xs) e = absurd (let q : suc (length xs) ≡ 0 = eqb-true (suc (length xs)) 0 e in omega (arith, q))

pub some_terms : {X : Type 0} (xs : List X) → (length xs == 0) ≡ false → 0 < length xs
some_terms [] e = absurd (true≢false e)
some_terms (x ∷ xs) e = omega arith
