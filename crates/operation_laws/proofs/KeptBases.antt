-- The members of a reduced basis with kept keys alone, these renamed, are reduced in an order that compares the kept keys alike
use Rattle.std.proofs.Common.{Bool, Equal, Greater, Less, List, Ordering, [], ap, ap₂, arith, false, get_or, inl, inr, length, map, refl, subst, sym, true, ℕ, ◌<◌, ◌∙◌, ◌∷◌, ◌≡◌, ◌⊎◌}
use Rattle.residues.proofs.Congruences.{IsCongruent_of, IsCongruent_sym, IsCongruent_trans}
use Rattle.residues.specs.Residues.{IsCongruent}
use Rattle.monomials.proofs.Monomials.{and_left, and_right}
use Rattle.formal_sums.proofs.Combining.{IsMember_itself}
use Rattle.formal_sums.proofs.WeightedSums.{indicator_other, indicator_same, key_cases, weighted_sum_ext}
use Rattle.formal_sums.specs.Combinations.{IsMember}
use Rattle.formal_sums.specs.FormalSums.{Each, FormalSum, Key, coefficient, indicator}
use Rattle.orders.proofs.KeyOrdering.{less_of_greater}
use Rattle.orders.specs.KeyOrders.{Descends, KeyDivides}
use Rattle.bases.proofs.Leading.{IsLead_of_monic, one_not_zero}
use Rattle.bases.specs.Bases.{IsCovered, IsReducedBasis}
use Rattle.bases.specs.Leads.{IsLead, IsMonicLead, IsNormal, head_key, leads}
use Rattle.bases.specs.Settings.{IsLawful, Setting}
use Rattle.division_laws.specs.Elimination.{IsDownClosed}
use Rattle.syzygy_laws.proofs.Choosing.{Choice, choice, get_or-map, length-map}
use Rattle.syzygy_laws.proofs.KernelParts.{all_kept_normal}
use Rattle.syzygy_laws.specs.Kernels.{all_kept, kept_list}
use Rattle.operation_laws.proofs.Behind.{place_apart}
use Rattle.operation_laws.proofs.Eliminate.{IsKept_of}
use Rattle.operation_laws.proofs.Linear.{Each_to_map, weighted_sum-map}
use Rattle.operation_laws.specs.Operations.{HasKeptKeys}

-- v, its keys renamed
abbrev pub renamed : {n m : ℕ} → (Key n → Key m) → FormalSum n → FormalSum m
renamed up v = map (λ t. (up t.0, t.1)) v

-- `up` takes the keys of S to keys of T, `down` back and the kept keys of T to those of S; the two compare them alike
pub record AreKeptKeys {n m : ℕ} (S : Setting n) (T : Setting m) (keep : Key m → Bool) (up : Key n → Key m) (down : Key m → Key n) : Type 0 where
  pub closed : IsDownClosed T keep
  pub there : (l : Key m) → keep l ≡ true → up (down l) ≡ l
  pub back : (k : Key n) → down (up k) ≡ k
  pub compare : (k l : Key n) → keep (up k) ≡ true → keep (up l) ≡ true → T.compare (up k) (up l) ≡ S.compare k l
  pub divides : (k l : Key n) → KeyDivides k l → KeyDivides (up k) (up l)
  pub divides_back : (k l : Key n) → KeyDivides (up k) (up l) → KeyDivides k l

-- ---- renamed keys
pub coefficient_renamed :
    {n m : ℕ} (up : Key n → Key m) (down : Key m → Key n) → ((k : Key n) → down (up k) ≡ k) → (v : FormalSum n) (k : Key n)
    → coefficient (renamed up v) (up k) ≡ coefficient v k
coefficient_renamed {n} {m} up down back v k = weighted_sum-map up (indicator (up k)) v ∙ weighted_sum_ext (λ l. indicator (up k) (up l)) (indicator k) same v
  where
    same : (l : Key n) → indicator (up k) (up l) ≡ indicator k l
    same l = go (key_cases k l)
      where
        go : (k ≡ l) ⊎ (k ≡ l → ⊥) → indicator (up k) (up l) ≡ indicator k l
        go (inl e) = indicator_same (up k) (up l) (ap up e) ∙ sym (indicator_same k l e)
        go (inr ne) = indicator_other (up k) (up l) (λ e. ne (sym (back k) ∙ ap down e ∙ back l)) ∙ sym (indicator_other k l ne)

renamed_again :
    {n m : ℕ} (keep : Key m → Bool) (up : Key n → Key m) (down : Key m → Key n) → ((l : Key m) → keep l ≡ true → up (down l) ≡ l)
    → (v : FormalSum m) → all_kept keep v ≡ true → renamed up (renamed down v) ≡ v
renamed_again keep up down there [] h = refl
renamed_again keep up down there (t ∷ v) h =
    ap₂ (λ k r. (k, t.1) ∷ r) (there t.0 (and_left (keep t.0) (all_kept keep v) h)) (renamed_again keep up down there v (and_right (keep t.0) (all_kept keep v) h))

module _ {n m : ℕ} (S : Setting n) (ws : List ℕ) (C : Key m → Key m → Ordering) (keep : Key m → Bool) (up : Key n → Key m) (down : Key m → Key n)
    (keys : AreKeptKeys S (record { modulus = S.modulus; weights = ws; rank = S.rank; compare = C }) keep up down) (lawful : IsLawful S) where
  abbrev T : Setting m
  T = record { modulus = S.modulus; weights = ws; rank = S.rank; compare = C }

  same : (v : FormalSum n) (k : Key n) → IsCongruent S.modulus (coefficient v k) (coefficient (renamed up v) (up k))
  same v k = IsCongruent_of S.modulus (coefficient v k) (coefficient (renamed up v) (up k)) (sym (coefficient_renamed up down keys.back v k))

  -- ---- a vector of kept keys, in the one setting and in the other
  below : (k : Key n) (v : FormalSum n) → keep (up k) ≡ true → all_kept keep (renamed up v) ≡ true → Each (λ u. C (up k) u.0 ≡ Greater) (renamed up v) → Each (λ u. S.compare k u.0 ≡ Greater) v
  below k [] on h e = tt
  below k (t ∷ v) on h e =
      (sym (keys.compare k t.0 on (and_left (keep (up t.0)) (all_kept keep (renamed up v)) h)) ∙ e.0, below k v on (and_right (keep (up t.0)) (all_kept keep (renamed up v)) h) e.1)

  descends_back : (v : FormalSum n) → all_kept keep (renamed up v) ≡ true → Descends C (renamed up v) → Descends S.compare v
  descends_back [] h d = tt
  descends_back (t ∷ v) h d =
      let on = and_left (keep (up t.0)) (all_kept keep (renamed up v)) h in
      let rest = and_right (keep (up t.0)) (all_kept keep (renamed up v)) h in
      (below t.0 v on rest d.0, descends_back v rest d.1)

  normal_back : (v : FormalSum n) → all_kept keep (renamed up v) ≡ true → IsNormal T (renamed up v) → IsNormal S v
  normal_back v h a = record {
    descends = descends_back v h a.descends;
    residues = Each_to_map (λ t. (0 < t.1) × (t.1 < S.modulus)) (λ u. (up u.0, u.1)) v a.residues;
  }

  monic_back : (v : FormalSum n) (k : Key n) → all_kept keep (renamed up v) ≡ true → keep (up k) ≡ true → IsMonicLead T (renamed up v) (up k) → IsMonicLead S v k
  monic_back v k h on a = record {
    one = IsCongruent_trans (same v k) a.one;
    above = λ l lt. IsCongruent_trans (same v l) (over l lt (keep (up l)) refl);
  }
    where
      over : (l : Key n) → S.compare k l ≡ Less → (b : Bool) → keep (up l) ≡ b → IsCongruent S.modulus (coefficient (renamed up v) (up l)) 0
      over l lt true e = a.above (up l) (keys.compare k l on e ∙ lt)
      over l lt false e = IsKept_of S.modulus keep (renamed up v) h (up l) e

  lead_up : (v : FormalSum n) (k : Key n) → HasKeptKeys S.modulus keep (renamed up v) → keep (up k) ≡ true → IsLead S v k → IsLead T (renamed up v) (up k)
  lead_up v k kept on lead = record {
    nonzero = λ z. lead.nonzero (IsCongruent_trans (same v k) z);
    above = λ l lt. over l lt (keep l) refl;
  }
    where
      over : (l : Key m) → C (up k) l ≡ Less → (b : Bool) → keep l ≡ b → IsCongruent S.modulus (coefficient (renamed up v) l) 0
      over l lt true e =
          let x : Key n = down l in
          let again : up x ≡ l = keys.there l e in
          let s : S.compare k x ≡ Less = sym (keys.compare k x on (ap keep again ∙ e)) ∙ ap (C (up k)) again ∙ lt in
          subst (λ z. IsCongruent S.modulus (coefficient (renamed up v) z) 0) again (IsCongruent_trans (IsCongruent_sym (same v x)) (lead.above x s))
      over l lt false e = kept l e

  -- the lead is kept with the others
  lead_kept : (v : FormalSum n) (k : Key n) → HasKeptKeys S.modulus keep (renamed up v) → IsLead S v k → keep (up k) ≡ true
  lead_kept v k kept lead = go (keep (up k)) refl
    where
      go : (b : Bool) → keep (up k) ≡ b → keep (up k) ≡ true
      go true e = e
      go false e = absurd (lead.nonzero (IsCongruent_trans (same v k) (kept (up k) e)))

  head_kept : (g : FormalSum m) → all_kept keep g ≡ true → IsMonicLead T g (head_key g) → keep (head_key g) ≡ true
  head_kept [] h a = absurd (one_not_zero S lawful (IsCongruent_sym a.one))
  head_kept (t ∷ v) h a = and_left (keep t.0) (all_kept keep v) h

  head_renamed : (v : FormalSum n) → IsMonicLead T (renamed up v) (head_key (renamed up v)) → head_key (renamed up v) ≡ up (head_key v)
  head_renamed [] a = absurd (one_not_zero S lawful (IsCongruent_sym a.one))
  head_renamed (t ∷ v) a = refl

  module _ (lawful_T : IsLawful (record { modulus = S.modulus; weights = ws; rank = S.rank; compare = C })) (F G : List (FormalSum m))
      (reduced : IsReducedBasis (record { modulus = S.modulus; weights = ws; rank = S.rank; compare = C }) F G) where
    abbrev K : List (FormalSum n)
    K = map (renamed down) (kept_list keep G)

    chosen : Choice (all_kept keep) [] G (kept_list keep G)
    chosen = choice (all_kept keep) [] G

    in_kept : (i : ℕ) → i < length K → i < length (kept_list keep G)
    in_kept i lt = subst (λ d. i < d) (length-map (renamed down) (kept_list keep G)) lt

    in_list : (i : ℕ) → i < length (kept_list keep G) → i < length K
    in_list i lt = subst (λ d. i < d) (sym (length-map (renamed down) (kept_list keep G))) lt

    at_place : (i j : ℕ) → get_or (kept_list keep G) i [] ≡ get_or G j [] → all_kept keep (get_or G j []) ≡ true → renamed up (get_or K i []) ≡ get_or G j []
    at_place i j e passes = ap (renamed up) (get_or-map (renamed down) [] (kept_list keep G) i ∙ ap (renamed down) e) ∙ renamed_again keep up down keys.there (get_or G j []) passes

    place_in : (i : ℕ) → i < length K → chosen.place i < length G
    place_in i lt = chosen.inside i (in_kept i lt)

    up_at : (i : ℕ) → i < length K → renamed up (get_or K i []) ≡ get_or G (chosen.place i) []
    up_at i lt = at_place i (chosen.place i) (chosen.same i (in_kept i lt)) (chosen.passes i (in_kept i lt))

    all_at : (i : ℕ) → i < length K → all_kept keep (renamed up (get_or K i [])) ≡ true
    all_at i lt = ap (all_kept keep) (up_at i lt) ∙ chosen.passes i (in_kept i lt)

    lead_at : (i j : ℕ) → j < length G → renamed up (get_or K i []) ≡ get_or G j [] → leads G j ≡ up (leads K i)
    lead_at i j lt e =
        ap head_key (sym e)
        ∙ head_renamed (get_or K i []) (subst (λ g. IsMonicLead T g (head_key g)) (sym e) (reduced.reduced.monic j lt))

    head : (i : ℕ) → i < length K → leads G (chosen.place i) ≡ up (leads K i)
    head i lt = lead_at i (chosen.place i) (place_in i lt) (up_at i lt)

    head_on : (i : ℕ) → i < length K → keep (up (leads K i)) ≡ true
    head_on i lt =
        ap keep (sym (head i lt))
        ∙ head_kept (get_or G (chosen.place i) []) (chosen.passes i (in_kept i lt)) (reduced.reduced.monic (chosen.place i) (place_in i lt))

    monic : (i : ℕ) → i < length K → IsMonicLead S (get_or K i []) (leads K i)
    monic i lt =
        monic_back (get_or K i []) (leads K i) (all_at i lt) (head_on i lt)
        (subst (λ k. IsMonicLead T (renamed up (get_or K i [])) k) (head i lt) (subst (λ g. IsMonicLead T g (leads G (chosen.place i))) (sym (up_at i lt)) (reduced.reduced.monic (chosen.place i) (place_in i lt))))

    apart :
        (i j : ℕ) (k : Key n)
        → i < length K → j < length K → (i ≡ j → ⊥) → KeyDivides (leads K j) k
        → IsCongruent S.modulus (coefficient (get_or K i []) k) 0
    apart i j k hi hj ne d =
        IsCongruent_trans (same (get_or K i []) k)
        (subst (λ g. IsCongruent S.modulus (coefficient g (up k)) 0) (sym (up_at i hi))
        (reduced.reduced.apart (chosen.place i) (chosen.place j) (up k) (place_in i hi) (place_in j hj)
        (place_apart chosen.place (length (kept_list keep G)) chosen.rising i j (in_kept i hi) (in_kept j hj) ne)
        (subst (λ x. KeyDivides x (up k)) (sym (head j hj)) (keys.divides (leads K j) k d))))

    -- what divides a kept key is kept
    divisor_kept : (l k : Key m) → keep k ≡ true → KeyDivides l k → keep l ≡ true
    divisor_kept l k on (e, d) = go (C l k) refl
      where
        go : (o : Ordering) → C l k ≡ o → keep l ≡ true
        go Less q = keys.closed k l q on
        go Equal q = ap keep (lawful_T.order.exact l k q) ∙ on
        go Greater q = absurd (lawful_T.order.not_below e l (ap (λ x. C x l) d ∙ less_of_greater lawful_T.order l k q))

    -- the lead of what the module has in kept keys alone is covered by these members
    pub kept_covers :
        (a : FormalSum n) (k : Key n) → IsMember S.modulus F (renamed up a) → HasKeptKeys S.modulus keep (renamed up a) → IsLead S a k
        → IsCovered S K k
    kept_covers a k member kept lead = found (reduced.reduced.basis.covers (renamed up a) (up k) member (lead_up a k kept on lead))
      where
        on : keep (up k) ≡ true
        on = lead_kept a k kept lead

        found : IsCovered T G (up k) → IsCovered S K k
        found (j, lt, first, d) =
            let passes : all_kept keep (get_or G j []) ≡ true = all_kept_normal T keep lawful_T keys.closed (get_or G j []) (reduced.reduced.normal j lt) (divisor_kept (leads G j) (up k) on d) in
            let c = chosen.all j lt passes in
            let h = lead_at c.0 j lt (at_place c.0 j c.2 passes) in
            let inside = in_list c.0 c.1 in
            (c.0, inside, IsLead_of_monic S lawful (monic c.0 inside), keys.divides_back (leads K c.0) k (subst (λ x. KeyDivides x (up k)) h d))

    -- where the leads of their module are covered, they are its reduced basis
    pub kept_reduced :
        ((a : FormalSum n) (k : Key n) → IsMember S.modulus K a → IsLead S a k → IsCovered S K k)
        → IsReducedBasis S K K
    kept_reduced covers = record {
      reduced = record {
        basis = record { members = IsMember_itself S.modulus K; covers = covers };
        normal = λ i lt. normal_back (get_or K i []) (all_at i lt) (subst (IsNormal T) (sym (up_at i lt)) (reduced.reduced.normal (chosen.place i) (place_in i lt)));
        monic = monic;
        apart = apart;
      };
      descends = λ i j lt h.
          let hi : i < length K = omega (arith, lt, h) in
          sym (keys.compare (leads K i) (leads K j) (head_on i hi) (head_on j h)) ∙ ap₂ C (sym (head i hi)) (sym (head j h))
          ∙ reduced.descends (chosen.place i) (chosen.place j) (chosen.rising i j lt (in_kept j h)) (place_in j h);
    }

    -- what these members cover, the basis does
    pub kept_covered : (k : Key n) → IsCovered S K k → IsCovered T G (up k)
    kept_covered k (i, lt, first, d) = (
      chosen.place i,
      place_in i lt,
      IsLead_of_monic T lawful_T (reduced.reduced.monic (chosen.place i) (place_in i lt)),
      subst (λ x. KeyDivides x (up k)) (sym (head i lt)) (keys.divides (leads K i) k d),
    )
