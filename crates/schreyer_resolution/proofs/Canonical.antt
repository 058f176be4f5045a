-- The columns at the pairs' leads, divided by the last divisors, are the next map of a canonical resolution
use Rattle.std.proofs.Common.{Greater, Less, List, [], ap, ap₂, arith, drop, get_or, inl, inr, length, refl, subst, subst₂, sym, ℕ, ◌*◌, ◌+◌, ◌<◌, ◌∙◌, ◌∷◌, ◌≡◌, ◌⊎◌}
use Rattle.residues.proofs.Congruences.{IsCongruent_equal, IsCongruent_of, IsCongruent_sym, IsCongruent_trans}
use Rattle.residues.specs.Residues.{IsCongruent}
use Rattle.monomials.proofs.Monomials.{times-quotient, times-quotient_right, times_assoc}
use Rattle.monomials.specs.Exponents.{Exponents, lcm, quotient, times}
use Rattle.formal_sums.proofs.WeightedSums.{indicator_other, indicator_same, key_cases}
use Rattle.formal_sums.specs.Combinations.{IsSyzygy}
use Rattle.formal_sums.specs.FormalSums.{Each, FormalSum, IsSame, Key, Term, coefficient, shift}
use Rattle.orders.proofs.KeyOrdering.{less_of_greater, not_itself}
use Rattle.orders.specs.KeyOrders.{KeyDivides, pot}
use Rattle.orders.specs.MonomialOrders.{lex}
use Rattle.bases.proofs.FreeTerms.{IsCovered_monic}
use Rattle.bases.proofs.Leading.{IsLead_of_monic, lead_unique, one_not_zero}
use Rattle.bases.proofs.NormalForms.{IsMonicList_normal, at_head, head_lead}
use Rattle.bases.specs.Bases.{IsCovered, IsReducedSet}
use Rattle.bases.specs.Leads.{IsMonicLead, IsMonicList, IsNormal, head_key, leads}
use Rattle.bases.specs.Settings.{IsLawful, Setting}
use Rattle.syzygy_laws.proofs.SyzygyLeads.{IsLawful_induced}
use Rattle.syzygy_laws.specs.Syzygies.{induced_setting, pair_lead_key}
use Rattle.resolution_laws.proofs.Existence.{basis_of_pairs, exact_of_pairs}
use Rattle.resolution_laws.specs.Resolutions.{IsCanonicalMap, IsExact}
use Rattle.vector_division.proofs.Occurring.{nonzeros}
use Rattle.induced_leads.specs.PairLeads.{ArePairLeads, IsPairKey, key_at}
use Rattle.schreyer_resolution.specs.Steps.{IsColumn, IsLastDivisor}

-- a key that stands nowhere has the coefficient 0
pub coefficient_none : {n : ℕ} (v : FormalSum n) (k : Key n) → Each (λ t. k ≡ t.0 → ⊥) v → coefficient v k ≡ 0
coefficient_none [] k h = refl
coefficient_none (t ∷ v) k h =
    let z = coefficient_none v k h.1 in
    let i = indicator_other k t.0 h.0 in
    ap₂ (λ x y. t.1 * x + y) i z ∙ omega arith

-- what a pair's lead divides is not last
pub not_last :
    {n : ℕ} (F : List (FormalSum n)) (k u : Key n) → IsPairKey F k → KeyDivides k u → IsLastDivisor F u → ⊥
not_last {n} F k u p (m, e) last = last p.later (subst (λ x. x < p.later) at p.after) p.inside (times m (quotient (lcm a b) b), divides)
  where
    a : Exponents n
    a = (leads F k.0).1

    b : Exponents n
    b = (leads F p.later).1

    at : k.0 ≡ u.0
    at = ap (λ z. z.0) e

    monomial : u.1 ≡ times m (quotient (lcm a b) a)
    monomial = sym (ap (λ z. z.1) e) ∙ ap (λ z. times m z.1) p.is

    product : times (times m (quotient (lcm a b) b)) b ≡ times u.1 a
    product =
        times_assoc m (quotient (lcm a b) b) b
        ∙ ap (times m) (times-quotient_right a b ∙ sym (times-quotient a b))
        ∙ sym (times_assoc m (quotient (lcm a b) a) a)
        ∙ ap (λ z. times z a) (sym monomial)

    divides : shift (times m (quotient (lcm a b) b)) (leads F p.later) ≡ shift u.1 (leads F u.0)
    divides =
        ap₂ (λ x y. (x, y)) (sym p.position) product
        ∙ ap (λ i. shift u.1 (leads F i)) at

module _ {n : ℕ} (S : Setting n) (lawful : IsLawful S) (F : List (FormalSum n)) (list : IsMonicList S F) where
  abbrev T : Setting n
  T = induced_setting S F

  up : IsLawful T
  up = IsLawful_induced S lawful F list

  abbrev IsBelow : Key n → Term n → Type 0
  IsBelow k t = (T.compare k t.0 ≡ Greater) × IsLastDivisor F t.0

  -- ---- a column by its terms
  module _ (k : Key n) (tail : FormalSum n) (below : Each (IsBelow k) tail) where
    none_at : (l : Key n) (w : FormalSum n) → (T.compare k l ≡ Less) ⊎ (k ≡ l) → Each (IsBelow k) w → Each (λ t. l ≡ t.0 → ⊥) w
    none_at l [] e h = tt
    none_at l (t ∷ w) e h = (go e, none_at l w e h.1)
      where
        go : (T.compare k l ≡ Less) ⊎ (k ≡ l) → l ≡ t.0 → ⊥
        go (inl q) d = let g : T.compare k l ≡ Greater = ap (T.compare k) d ∙ h.0.0 in cc
        go (inr q) d = not_itself up.order k (less_of_greater up.order k k (ap (T.compare k) (q ∙ d) ∙ h.0.0))

    at_whole : (l : Key n) → (l ≡ k → ⊥) → Each (λ t. l ≡ t.0 → ⊥) tail → coefficient ((k, 1) ∷ tail) l ≡ 0
    at_whole l ne h = ap₂ (λ x y. 1 * x + y) (indicator_other l k ne) (coefficient_none tail l h)

    whole_lead : IsMonicLead T ((k, 1) ∷ tail) k
    whole_lead = record {
      one = IsCongruent_of S.modulus _ 1 (ap₂ (λ x y. 1 * x + y) (indicator_same k k refl) (coefficient_none tail k (none_at k tail (inr refl) below)));
      above = λ l e. IsCongruent_of S.modulus _ 0 (at_whole l (λ q. not_itself up.order k (subst (λ x. T.compare k x ≡ Less) q e)) (none_at l tail (inl e) below));
    }

    found : (l : Key n) (w : FormalSum n) → Each (IsBelow k) w → IsLastDivisor F l ⊎ Each (λ t. l ≡ t.0 → ⊥) w
    found l [] h = inr tt
    found l (t ∷ w) h = go (key_cases l t.0) (found l w h.1)
      where
        go : (l ≡ t.0) ⊎ (l ≡ t.0 → ⊥) → IsLastDivisor F l ⊎ Each (λ u. l ≡ u.0 → ⊥) w → IsLastDivisor F l ⊎ Each (λ u. l ≡ u.0 → ⊥) (t ∷ w)
        go (inl e) r = inl (subst (IsLastDivisor F) (sym e) h.0.1)
        go (inr ne) (inl a) = inl a
        go (inr ne) (inr a) = inr (ne, a)

    -- a vector that is the whole
    module _ (t : Term n) (w : FormalSum n) (normal : IsNormal T (t ∷ w)) (same : IsSame S.modulus (t ∷ w) ((k, 1) ∷ tail)) where
      lead : IsMonicLead T (t ∷ w) k
      lead = record {
        one = IsCongruent_trans (same.by_key k) whole_lead.one;
        above = λ l e. IsCongruent_trans (same.by_key l) (whole_lead.above l e);
      }

      at_lead : t.0 ≡ k
      at_lead = lead_unique T up (t ∷ w) t.0 k (head_lead T up t w normal.descends normal.residues) (IsLead_of_monic T up lead)

      one_first : t.1 ≡ 1
      one_first =
          IsCongruent_equal S.modulus t.1 1 normal.residues.0.1 lawful.domain.above_one
          (IsCongruent_trans (IsCongruent_of S.modulus _ _ (sym (at_head T up t w normal.descends))) (subst (λ x. IsCongruent S.modulus (coefficient (t ∷ w) x) 1) (sym at_lead) lead.one))

      last_of : (u : Term n) → (IsCongruent S.modulus (coefficient (t ∷ w) u.0) 0 → ⊥) → T.compare t.0 u.0 ≡ Greater → IsLastDivisor F u.0
      last_of u nz g = go (found u.0 tail below)
        where
          other : u.0 ≡ k → ⊥
          other e = not_itself up.order t.0 (less_of_greater up.order t.0 t.0 (ap (T.compare t.0) (at_lead ∙ sym e) ∙ g))

          go : IsLastDivisor F u.0 ⊎ Each (λ x. u.0 ≡ x.0 → ⊥) tail → IsLastDivisor F u.0
          go (inl a) = a
          go (inr a) = absurd (nz (IsCongruent_trans (same.by_key u.0) (IsCongruent_of S.modulus _ 0 (at_whole u.0 other a))))

      rest_last : (xs : FormalSum n) → Each (λ u. IsCongruent S.modulus (coefficient (t ∷ w) u.0) 0 → ⊥) xs → Each (λ u. T.compare t.0 u.0 ≡ Greater) xs → Each (λ u. IsLastDivisor F u.0) xs
      rest_last [] nz g = tt
      rest_last (u ∷ xs) nz g = (last_of u nz.0 g.0, rest_last xs nz.1 g.1)

      pub column_some : IsSyzygy S.modulus F (t ∷ w) → IsColumn S F k (t ∷ w)
      column_some syzygy = record {
        lead = at_lead;
        one = one_first;
        normal = normal;
        syzygy = syzygy;
        last = rest_last w (nonzeros T up (t ∷ w) normal.descends normal.residues).1 normal.descends.0;
      }

    -- a vector in normal form that is k and terms below, all last ones, is a column
    pub column_of : (v : FormalSum n) → IsNormal T v → IsSame S.modulus v ((k, 1) ∷ tail) → IsSyzygy S.modulus F v → IsColumn S F k v
    column_of [] normal same syzygy = absurd (one_not_zero S lawful (IsCongruent_sym (IsCongruent_trans (same.by_key k) whole_lead.one)))
    column_of (t ∷ w) normal same syzygy = column_some t w normal same syzygy

  -- ---- the columns at the pairs' leads
  module _ (keys : List (Key n)) (pairs : ArePairLeads F keys) (H : List (FormalSum n)) (count : length H ≡ length keys)
      (columns : (c : ℕ) → c < length H → IsColumn S F (key_at keys c) (get_or H c [])) where
    lead_at : (c : ℕ) → c < length H → leads H c ≡ key_at keys c
    lead_at c lt = (columns c lt).lead

    known : (c : ℕ) → c < length H → c < length keys
    known c lt = omega (arith, count, lt)

    ranked : (c : ℕ) → c < length H → (leads H c).0 < length F
    ranked c lt =
        let p = pairs.each c (known c lt) in
        let a = p.after in
        let b = p.inside in
        let e = ap (λ k. k.0) (lead_at c lt) in
        omega (arith, a, b, e)

    pub columns_monic : IsMonicList T H
    columns_monic = IsMonicList_normal T up H (λ c lt. (columns c lt).normal) (λ c lt. (columns c lt).one) ranked

    covered : (i j : ℕ) → i < j → j < length F → (leads F i).0 ≡ (leads F j).0 → IsCovered T H (pair_lead_key F i j)
    covered i j lt h e = go (pairs.covers i j lt h e)
      where
        go : (c : ℕ) × (c < length keys) × KeyDivides (key_at keys c) (pair_lead_key F i j) → IsCovered T H (pair_lead_key F i j)
        go (c, l, d) =
            let l' : c < length H = omega (arith, count, l) in
            IsCovered_monic T up H columns_monic c (pair_lead_key F i j) l' (subst (λ k. KeyDivides k (pair_lead_key F i j)) (sym (lead_at c l')) d)

    pub columns_exact : IsExact S.modulus F H
    columns_exact = exact_of_pairs S lawful F list H columns_monic (λ c lt. (columns c lt).syzygy) covered

    -- no other column's lead divides a key of a column
    free_key : (i j : ℕ) → i < length H → j < length H → (i ≡ j → ⊥) → (k : Key n) → KeyDivides (leads H j) k → (v : FormalSum n) → head_key v ≡ key_at keys i → Each (λ t. IsLastDivisor F t.0) (drop 1 v) → Each (λ t. k ≡ t.0 → ⊥) v
    free_key i j hi hj ne k d [] e last = tt
    free_key i j hi hj ne k d (t ∷ w) e last = (
      λ q. pairs.apart i j (known i hi) (known j hj) ne (subst₂ KeyDivides (lead_at j hj) (q ∙ e) d),
      rest w last,
    )
      where
        rest : (w : FormalSum n) → Each (λ t. IsLastDivisor F t.0) w → Each (λ t. k ≡ t.0 → ⊥) w
        rest [] h = tt
        rest (u ∷ w) h = ((λ q. not_last F (key_at keys j) u.0 (pairs.each j (known j hj)) (subst₂ KeyDivides (lead_at j hj) q d) h.0), rest w h.1)

    pub columns_reduced : IsReducedSet T H H
    columns_reduced = record {
      basis = basis_of_pairs S lawful F list H columns_monic (λ c lt. (columns c lt).syzygy) covered;
      normal = λ i lt. (columns i lt).normal;
      monic = columns_monic.monic;
      apart = λ i j k hi hj ne d. IsCongruent_of S.modulus _ 0 (coefficient_none (get_or H i []) k (free_key i j hi hj ne k d (get_or H i []) (columns i hi).lead (columns i hi).last));
    }

    pub columns_canonical : 0 < length H → IsCanonicalMap T H H
    columns_canonical some = record {
      columns = some;
      basis = record {
        reduced = columns_reduced;
        descends = λ i j lt h. ap₂ (pot lex) (lead_at i (omega arith)) (lead_at j h) ∙ pairs.sorted i j lt (known j h);
      };
    }
