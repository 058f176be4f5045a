-- The loop of a division by the last divisors
use Rattle.std.proofs.Common.{Greater, Less, List, None, Option, Ordering, Some, inl, inr, ◌⊎◌, [], ap, arith, get_or, length, refl, subst, subst₂, sym, ℕ, ◌*◌, ◌++◌, ◌+◌, ◌<◌, ◌∙◌, ◌∷◌, ◌≡◌, append-nil}
use Rattle.std.proofs.lemmas.List.{map-append, length-map}
use Rattle.residues.specs.Residues.{IsCongruent}
use Rattle.residues.proofs.Congruences.{IsCongruent_add, IsCongruent_nonzero, IsCongruent_of, IsCongruent_refl, IsCongruent_sym, IsCongruent_trans}
use Rattle.monomials.specs.Exponents.{exponents_of}
use Rattle.formal_sums.proofs.Combining.{Each_map}
use Rattle.formal_sums.proofs.Sameness.{IsSame_append, IsSame_of, IsSame_trans, IsSame_refl, IsSame_sym}
use Rattle.formal_sums.proofs.WeightedSums.{Each_append, coefficient-append, indicator_other, key_cases}
use Rattle.formal_sums.specs.Combinations.{combination}
use Rattle.formal_sums.specs.FormalSums.{Each, FormalSum, IsSame, Key, coefficient, shift}
use Rattle.orders.proofs.KeyOrdering.{less_of_greater, not_itself}
use Rattle.orders.specs.KeyOrders.{IsKeyOrder, KeyDivides}
use Rattle.bases.proofs.FreeTerms.{lead_of_zero}
use Rattle.bases.proofs.Leading.{IsLead_of_monic, positive}
use Rattle.bases.proofs.NormalForms.{at_head}
use Rattle.bases.specs.Bases.{IsGroebnerBasis}
use Rattle.bases.specs.Leads.{IsLead, IsMonicList, head_key, leads}
use Rattle.bases.specs.Settings.{IsLawful, Setting}
use Rattle.monomial_orders.specs.Kept.{Monomial}
use Rattle.term_lists.specs.Rings.{setting, variables}
use Rattle.term_lists.specs.Vectors.{AreVectorsOver, IsMonomialOver, IsTerm, IsVectorOver, key_of, sum_of, sums_of}
use Rattle.term_lists.specs.declared.key.Key.{Key as CodeKey}
use Rattle.term_lists.specs.declared.ring.Ring.{Ring}
use Rattle.term_lists.specs.declared.stop.VectStop.{VectStop}
use Rattle.term_lists.specs.declared.stop.VectStop.TheVariants.{Degree}
use Rattle.module_vectors.specs.Trails.{HasKey, KeptProduct, lead_at}
use Rattle.vector_division.proofs.Carrying.{below_total, carried, failing_product, not_in_total}
use Rattle.vector_division.proofs.Keeping.{kept_first, kept_same}
use Rattle.vector_division.proofs.Occurring.{at_key, occurs}
use Rattle.vector_division.proofs.Topping.{total-push, with_zero}
use Rattle.vector_division.proofs.Members.{sums_at}
use Rattle.vector_division.specs.Divisions.{IsFreeOfLeads, IsUncovered}
use Rattle.vector_division.specs.Progress.{IsSubtraction, SubtractionStops}
use Rattle.vector_division.specs.Reductions.{cofactors_of}
use Rattle.vector_division.specs.Runs as divisions
use Rattle.vector_division.specs.Runs.{AreBelow, IsNextTaken, IsOver, IsSplit, StandsWith, Supports, total, with_next}
use Rattle.vector_division.specs.declared.reduction.ScaledProduct.{ScaledProduct}
use Rattle.induced_leads.specs.PairLeads.{IsPairKey}
use Rattle.induced_leads.specs.Spans.{IsFoundLast}
use Rattle.induced_leads.specs.Sifting.{IsSifting}
use Rattle.schreyer_resolution.specs.Chains.{IsFailing}
use Rattle.schreyer_resolution.specs.Columns.{IsProductDivided, IsProductOf, IsColumnUnderway}
use Rattle.schreyer_resolution.specs.Steps.{IsLastDivisor}
use Rattle.schreyer_resolution.proofs.FreeMembers.{free_members_zero, rest_member}
use Rattle.schreyer_resolution.proofs.Making.{v_member}

abbrev pub Terms : Type 0
Terms = List (CodeKey × ℕ)

-- a term above all others is the lead of the sum
lead_of_next :
    {m : ℕ} (S : Setting m) → IsLawful S → (k : Key m) (r : ℕ) (v : FormalSum m) → 0 < r → r < S.modulus → IsOver S.compare k v
    → IsLead S ((k, r) ∷ v) k
lead_of_next {m} S lawful k r v pos lt over = record { nonzero = λ q. here q (occurs v k); above = λ l less. other l less (occurs ((k, r) ∷ v) l) }
  where
    here : IsCongruent S.modulus (coefficient ((k, r) ∷ v) k) 0 → HasKey v k ⊎ (coefficient v k ≡ 0) → ⊥
    here q (inl h) = not_itself lawful.order k (less_of_greater lawful.order k k (at_key (λ l. S.compare k l ≡ Greater) v k over h))
    here q (inr z) =
        let first : coefficient ((k, r) ∷ []) k ≡ r = at_head S lawful (k, r) [] (tt, tt) in
        let one : coefficient ((k, r) ∷ v) k ≡ coefficient ((k, r) ∷ []) k + coefficient v k = coefficient-append ((k, r) ∷ []) v k in
        let two : coefficient ((k, r) ∷ v) k ≡ r = omega (arith, one, first, z) in
        IsCongruent_nonzero S.modulus r pos lt (IsCongruent_trans (IsCongruent_of S.modulus _ _ (sym two)) q)

    not_less : (l : Key m) → S.compare k l ≡ Greater → S.compare k l ≡ Less → ⊥
    not_less l g e = let x : Greater ≡ Less = sym g ∙ e in cc

    other : (l : Key m) → S.compare k l ≡ Less → HasKey ((k, r) ∷ v) l ⊎ (coefficient ((k, r) ∷ v) l ≡ 0) → IsCongruent S.modulus (coefficient ((k, r) ∷ v) l) 0
    other l less (inl h) =
        absurd (at_key (λ y. S.compare k y ≡ Less → ⊥) ((k, r) ∷ v) l (not_itself lawful.order k, Each_map _ _ v (λ u g. not_less u.0 g) over) h less)
    other l less (inr z) = IsCongruent_of S.modulus _ _ z

-- the term that was taken is at no key of what is left
with_key :
    (n p : ℕ) (compare : Key n → Key n → Ordering) → IsKeyOrder 0 compare → (k : Key n) (r : ℕ) (runs : List Terms) → AreBelow n compare k runs
    → (l : Key n) → (IsCongruent p (coefficient (total n runs) l) 0 → ⊥) → IsCongruent p (coefficient ((k, r) ∷ total n runs) l) 0 → ⊥
with_key n p compare order k r runs below l nz z = go (key_cases l k) (occurs (total n runs) k)
  where
    go : (l ≡ k) ⊎ (l ≡ k → ⊥) → HasKey (total n runs) k ⊎ (coefficient (total n runs) k ≡ 0) → ⊥
    go (inl e) (inl h) = not_in_total n compare order k runs below h
    go (inl e) (inr c) = nz (IsCongruent_of p _ _ (ap (coefficient (total n runs)) e ∙ c))
    go (inr ne) o =
        let same : coefficient ((k, r) ∷ total n runs) l ≡ coefficient (total n runs) l = ap (λ y. r * y + coefficient (total n runs) l) (indicator_other l k ne) ∙ omega arith in
        nz (IsCongruent_trans (IsCongruent_of p _ _ (sym same)) z)

-- what holds at its keys holds where a sum is not 0
supported : {n : ℕ} (p : ℕ) (P : Key n → Type 0) (v : FormalSum n) → Each (λ t. P t.0) v → (k : Key n) → (IsCongruent p (coefficient v k) 0 → ⊥) → P k
supported {n} p P v h k nz = go (occurs v k)
  where
    go : HasKey v k ⊎ (coefficient v k ≡ 0) → P k
    go (inl i) = at_key P v k h i
    go (inr z) = absurd (nz (IsCongruent_of p _ _ z))

module _ (ring : Ring) (compare : (n : ℕ) → Key n → Key n → Ordering) (rank : ℕ) (lawful : IsLawful (setting ring (variables ring) (compare (variables ring)) rank)) (order : IsKeyOrder 0 (compare (variables ring)))
    (cols : List Terms) (vectors : AreVectorsOver ring compare cols)
    (monic : IsMonicList (setting ring (variables ring) (compare (variables ring)) rank) (sums_of (variables ring) cols)) where
  abbrev n : ℕ
  n = variables ring

  abbrev S : Setting (variables ring)
  S = setting ring (variables ring) (compare (variables ring)) rank

  abbrev F : List (FormalSum (variables ring))
  F = sums_of (variables ring) cols

  in_cols : (j : ℕ) → j < length F → j < length cols
  in_cols j lt = omega (arith, lt, length-map cols (λ v. sum_of (variables ring) v))

  in_sums : (j : ℕ) → j < length cols → j < length F
  in_sums j lt = omega (arith, lt, length-map cols (λ v. sum_of (variables ring) v))

  lead_is : (j : ℕ) → leads F j ≡ lead_at (variables ring) cols j
  lead_is j = ap head_key (sums_at (variables ring) cols j)

  led : (j : ℕ) → j < length F → IsLead S (get_or F j []) (leads F j)
  led j lt = IsLead_of_monic S lawful (monic.monic j lt)

  -- no column is zero
  pub some : (j : ℕ) → j < length cols → 0 < length (get_or cols j [])
  some j lt = go (get_or cols j []) refl
    where
      go : (w : Terms) → get_or cols j [] ≡ w → 0 < length (get_or cols j [])
      go [] e = absurd (lead_of_zero S (get_or F j []) (leads F j) (sums_at (variables ring) cols j ∙ ap (sum_of (variables ring)) e) (led j (in_sums j lt)))
      go (t ∷ w) e = subst (λ z. 0 < length z) (sym e) (omega arith)

  module _ (basis : IsGroebnerBasis (setting ring (variables ring) (compare (variables ring)) rank) (sums_of (variables ring) cols) (sums_of (variables ring) cols))
      (key : CodeKey) (pair : IsPairKey (sums_of (variables ring) cols) (key_of (variables ring) key)) where
    -- terms that no lead divides have no part in what is left
    covered_same :
        (x y e : FormalSum (variables ring)) → IsSame ring.modulus.value x (y ++ e) → Each (λ q. IsUncovered F q.0) e
        → Supports ring.modulus.value y (λ k. IsUncovered F k → ⊥)
        → (k : Key (variables ring)) → (IsCongruent ring.modulus.value (coefficient y k) 0 → ⊥) → IsCongruent ring.modulus.value (coefficient x k) 0 → ⊥
    covered_same x y e same free cov k nz z = go (occurs e k)
      where
        go : HasKey e k ⊎ (coefficient e k ≡ 0) → ⊥
        go (inl h) = cov k nz (at_key (IsUncovered F) e k free h)
        go (inr n) = nz (IsCongruent_trans (IsCongruent_sym (IsCongruent_trans (same.by_key k) (IsCongruent_of ring.modulus.value _ _ (coefficient-append y e k ∙ ap (λ q. coefficient y k + q) n ∙ omega arith)))) z)

    parted :
        (v : Terms) (qs : List ScaledProduct) (dropped more : Terms) (old new : List Terms) (x y : FormalSum (variables ring))
        → IsSplit (variables ring) ring.weights ring.modulus.value (compare (variables ring)) v cols qs dropped old x
        → AreVectorsOver ring compare new → IsSame ring.modulus.value x (y ++ sum_of (variables ring) more)
        → Each (IsTerm (variables ring) ring.weights ring.modulus.value) more → IsFreeOfLeads F (sum_of (variables ring) more)
        → Supports ring.modulus.value y (λ k. IsUncovered F k → ⊥)
        → IsSplit (variables ring) ring.weights ring.modulus.value (compare (variables ring)) v cols qs (dropped ++ more) new y
    parted v qs dropped more old new x y h lists same terms free cov =
        let R = sum_of (variables ring) dropped in
        let E = sum_of (variables ring) more in
        let c = combination F (cofactors_of (variables ring) qs) in
        let joined : sum_of (variables ring) (dropped ++ more) ≡ R ++ E = map-append (λ t. (key_of (variables ring) t.0, t.1)) dropped more in
        record {
          lists = lists;
          underway = record {
            quotients = h.underway.quotients;
            met = h.underway.met;
            bounded = h.underway.bounded;
            keys = λ k nz. h.underway.keys k (covered_same x y E same free cov k nz);
            up_to = λ k nz. h.underway.up_to k (covered_same x y E same free cov k nz);
          };
          stay = Each_append (IsTerm (variables ring) ring.weights ring.modulus.value) dropped more h.stay terms;
          reduced = subst (IsFreeOfLeads F) (sym joined) (Each_append (λ q. IsUncovered F q.0) R E h.reduced free);
          sum = IsSame_trans h.sum (IsSame_append (IsSame_refl ring.modulus.value c) (record {
            by_key = λ k.
                let r = coefficient R k in
                let e = coefficient E k in
                let z = coefficient y k in
                let one = IsCongruent_add (IsCongruent_refl ring.modulus.value r) (IsCongruent_trans (same.by_key k) (IsCongruent_of ring.modulus.value _ _ (coefficient-append y E k))) in
                let two : coefficient (sum_of (variables ring) (dropped ++ more) ++ y) k ≡ (r + e) + z = coefficient-append (sum_of (variables ring) (dropped ++ more)) y k ∙ ap (λ q. q + z) (ap (λ q. coefficient q k) joined ∙ coefficient-append R E k) in
                IsCongruent_trans (IsCongruent_of ring.modulus.value _ _ (coefficient-append R x k)) (IsCongruent_trans one (IsCongruent_of ring.modulus.value _ _ (turned r z e ∙ sym two)));
          }));
        }
      where
        turned : (r z e : ℕ) → r + (z + e) ≡ (r + e) + z
        turned r z e = omega arith

    -- the start
    pub underway_start :
        (v kept : Terms) (runs : List Terms) → IsProductOf ring compare cols key v → IsSifting ring compare cols v kept [] → runs ≡ kept ∷ []
        → IsColumnUnderway ring compare cols key [] runs (total (variables ring) runs)
    underway_start v kept runs h s is =
        let e : kept ++ [] ≡ kept = append-nil kept in
        let K = sum_of (variables ring) kept in
        let all : total (variables ring) runs ≡ K = ap (total (variables ring)) is ∙ append-nil K in
        let cov : Supports ring.modulus.value K (λ k. IsUncovered F k → ⊥) = λ k nz. supported ring.modulus.value (λ l. IsUncovered F l → ⊥) K s.covered k nz in
        let same : IsSame ring.modulus.value (total (variables ring) (v ∷ [])) (total (variables ring) runs ++ sum_of (variables ring) s.dropped) =
        subst₂ (λ x y. IsSame ring.modulus.value x (y ++ sum_of (variables ring) s.dropped)) (sym (append-nil (sum_of (variables ring) v))) (ap (sum_of (variables ring)) e ∙ sym all) s.same in
        let here : Supports ring.modulus.value (total (variables ring) runs) (λ k. IsUncovered F k → ⊥) = subst (λ z. Supports ring.modulus.value z (λ k. IsUncovered F k → ⊥)) (sym all) cov in
        record {
          product = v;
          of_column = h;
          dropped = s.dropped;
          progress = parted v [] [] s.dropped (v ∷ []) runs (total (variables ring) (v ∷ [])) (total (variables ring) runs)
              (kept_first (variables ring) ring.weights ring.modulus.value (compare (variables ring)) order v cols (v ∷ []) v refl refl h.vector)
              (subst (AreVectorsOver ring compare) (sym is) (subst (IsVectorOver ring compare) e s.vector, tt)) same s.terms s.free here;
          covered = here;
          last = tt;
        }

    -- other lists with the same sum
    pub underway_same :
        (qs : List ScaledProduct) (old new : List Terms) (x y : FormalSum (variables ring))
        → IsColumnUnderway ring compare cols key qs old x → AreVectorsOver ring compare new → IsSame ring.modulus.value x y
        → IsColumnUnderway ring compare cols key qs new y
    underway_same qs old new x y u lists e = record {
      product = u.product;
      of_column = u.of_column;
      dropped = u.dropped;
      progress = kept_same (variables ring) ring.weights ring.modulus.value (compare (variables ring)) order u.product cols qs u.dropped old new x y u.progress lists e;
      covered = λ k nz. u.covered k (λ z. nz (IsCongruent_trans (IsCongruent_sym (e.by_key k)) z));
      last = u.last;
    }

    -- the next term is taken
    pub underway_taken :
        (qs : List ScaledProduct) (old new : List Terms) (next : Option (CodeKey × ℕ))
        → IsColumnUnderway ring compare cols key qs old (total (variables ring) old) → AreVectorsOver ring compare new
        → IsNextTaken (variables ring) ring.weights ring.modulus.value (compare (variables ring)) old new next
        → IsColumnUnderway ring compare cols key qs new (with_next (variables ring) next (total (variables ring) new))
    underway_taken qs old new next u lists t = underway_same qs old new (total (variables ring) old) (with_next (variables ring) next (total (variables ring) new)) u lists t.sum

    -- its residue is 0
    pub underway_zero :
        (qs : List ScaledProduct) (runs : List Terms) (k : Key (variables ring)) (r : ℕ) → r ≡ 0
        → IsColumnUnderway ring compare cols key qs runs ((k, r) ∷ total (variables ring) runs)
        → IsColumnUnderway ring compare cols key qs runs (total (variables ring) runs)
    underway_zero qs runs k r none u =
        underway_same qs runs runs ((k, r) ∷ total (variables ring) runs) (total (variables ring) runs) u u.progress.lists
        (subst (λ z. IsSame ring.modulus.value ((k, z) ∷ total (variables ring) runs) (total (variables ring) runs)) (sym none)
        (IsSame_sym (with_zero (variables ring) ring.weights ring.modulus.value compare order k (total (variables ring) runs))))

    -- the end: what was dropped is a member without a covered key, so that it is 0
    pub underway_end :
        (qs : List ScaledProduct) (runs : List Terms) → total (variables ring) runs ≡ []
        → IsColumnUnderway ring compare cols key qs runs (total (variables ring) runs) → IsProductDivided ring compare cols key qs
    underway_end qs runs none u = record {
      product = u.product;
      of_column = u.of_column;
      progress = record {
        lists = tt;
        underway = record {
          quotients = u.progress.underway.quotients;
          met = u.progress.underway.met;
          bounded = u.progress.underway.bounded;
          keys = λ k nz. absurd (nz (IsCongruent_refl ring.modulus.value 0));
          up_to = λ k nz. absurd (nz (IsCongruent_refl ring.modulus.value 0));
        };
        stay = tt;
        reduced = tt;
        sum = IsSame_trans whole (IsSame_append (IsSame_refl ring.modulus.value c) zero);
      };
      last = u.last;
    }
      where
        c : FormalSum (variables ring)
        c = combination F (cofactors_of (variables ring) qs)

        whole : IsSame ring.modulus.value (sum_of (variables ring) u.product) (combination F (cofactors_of (variables ring) qs) ++ sum_of (variables ring) u.dropped)
        whole = subst (λ z. IsSame ring.modulus.value (sum_of (variables ring) u.product) (combination F (cofactors_of (variables ring) qs) ++ z))
            (ap (λ z. sum_of (variables ring) u.dropped ++ z) none ∙ append-nil (sum_of (variables ring) u.dropped)) u.progress.sum

        zero : IsSame ring.modulus.value (sum_of (variables ring) u.dropped) []
        zero =
            let D = sum_of (variables ring) u.dropped in
            let v = sum_of (variables ring) u.product in
            free_members_zero ring compare rank lawful cols basis D
            (rest_member S.modulus (positive S lawful) F v (cofactors_of (variables ring) qs) D
            (v_member ring compare rank lawful cols monic key pair u.product u.of_column) whole) u.progress.reduced

    module _
        (qs : List ScaledProduct) (t : CodeKey × ℕ) (runs : List Terms) (weighed : IsMonomialOver ring t.0.monomial) (pos : 0 < t.1)
        (lt : t.1 < ring.modulus.value) (below : AreBelow (variables ring) (compare (variables ring)) (key_of (variables ring) t.0) runs)
        (u : IsColumnUnderway ring compare cols key qs runs ((key_of (variables ring) t.0, t.1) ∷ total (variables ring) runs))
      where
        abbrev K : Key (variables ring)
        K = key_of (variables ring) t.0

        abbrev left : FormalSum (variables ring)
        left = (key_of (variables ring) t.0, t.1) ∷ total (variables ring) runs

        -- the term is the lead of what is left
        left_led : IsLead S ((key_of (variables ring) t.0, t.1) ∷ total (variables ring) runs) (key_of (variables ring) t.0)
        left_led = lead_of_next S lawful K t.1 (total (variables ring) runs) pos lt (below_total (variables ring) (compare (variables ring)) K runs below)

        -- so some lead divides it
        pub divisible : IsFoundLast (variables ring) ring.weights cols (key_of (variables ring) t.0) None → ⊥
        divisible none = u.covered K left_led.nonzero none

        module _ (s : KeptProduct) (found : IsFoundLast (variables ring) ring.weights cols (key_of (variables ring) t.0) (Some s)) where
          is_last : IsLastDivisor F (s.0, exponents_of (variables ring) s.1.exponents)
          is_last j after inside d =
              let there : j < length cols = in_cols j inside in
              found.1 j (omega (arith, after)) there (some j there)
              (subst₂ KeyDivides (lead_is j) (ap (shift (exponents_of (variables ring) s.1.exponents)) (lead_is s.0) ∙ found.0.lead) d)

          -- one product less
          module _ (new : List Terms) (rest kept : Terms) (c : ℕ) (lists : AreVectorsOver ring compare new)
              (taken : IsSubtraction (variables ring) ring.weights ring.modulus.value (compare (variables ring)) s.1 (get_or cols s.0 []) 0 (t ∷ []) rest c)
              (sifted : IsSifting ring compare cols rest kept [])
              (added : IsSame ring.modulus.value (total (variables ring) new) (total (variables ring) runs ++ sum_of (variables ring) kept)) where
            abbrev more : FormalSum (variables ring)
            more = sum_of (variables ring) sifted.dropped

            kept_nil : kept ++ [] ≡ kept
            kept_nil = append-nil kept

            rest_same : IsSame ring.modulus.value (sum_of (variables ring) rest) (sum_of (variables ring) kept ++ sum_of (variables ring) sifted.dropped)
            rest_same = subst (λ z. IsSame ring.modulus.value (sum_of (variables ring) rest) (sum_of (variables ring) z ++ sum_of (variables ring) sifted.dropped)) kept_nil sifted.same

            -- with what was dropped the lists have the whole product
            with_dropped : IsSame ring.modulus.value (total (variables ring) (new ++ sifted.dropped ∷ [])) (total (variables ring) runs ++ sum_of (variables ring) rest)
            with_dropped = record {
              by_key = λ k.
                  let T = total (variables ring) runs in
                  let x = coefficient T k in
                  let y = coefficient (sum_of (variables ring) kept) k in
                  let e = coefficient (sum_of (variables ring) sifted.dropped) k in
                  let one : coefficient (total (variables ring) (new ++ sifted.dropped ∷ [])) k ≡ coefficient (total (variables ring) new) k + e =
                  ap (λ z. coefficient z k) (total-push (variables ring) new sifted.dropped) ∙ coefficient-append (total (variables ring) new) (sum_of (variables ring) sifted.dropped) k in
                  let two = IsCongruent_add (IsCongruent_trans (added.by_key k) (IsCongruent_of ring.modulus.value _ _ (coefficient-append T (sum_of (variables ring) kept) k))) (IsCongruent_refl ring.modulus.value e) in
                  let three = IsCongruent_add (IsCongruent_refl ring.modulus.value x) (IsCongruent_trans (rest_same.by_key k) (IsCongruent_of ring.modulus.value _ _ (coefficient-append (sum_of (variables ring) kept) (sum_of (variables ring) sifted.dropped) k))) in
                  IsCongruent_trans (IsCongruent_of ring.modulus.value _ _ one) (IsCongruent_trans two (IsCongruent_trans (IsCongruent_of ring.modulus.value _ _ (grouped x y e)) (IsCongruent_trans (IsCongruent_sym three) (IsCongruent_of ring.modulus.value _ _ (sym (coefficient-append T (sum_of (variables ring) rest) k))))));
            }
              where
                grouped : (x y e : ℕ) → (x + y) + e ≡ x + (y + e)
                grouped x y e = omega arith

            all :
                IsOver (compare (variables ring)) K (sum_of (variables ring) rest)
                × divisions.IsUnderway (variables ring) ring.weights ring.modulus.value (compare (variables ring)) u.product cols (qs ++ (record { index = s.0; residue = c; monomial = s.1 }) ∷ []) (total (variables ring) (new ++ sifted.dropped ∷ []))
                × ((x : FormalSum (variables ring)) → StandsWith (variables ring) ring.modulus.value u.product cols qs x left → StandsWith (variables ring) ring.modulus.value u.product cols (qs ++ (record { index = s.0; residue = c; monomial = s.1 }) ∷ []) x (total (variables ring) (new ++ sifted.dropped ∷ [])))
            all = carried (variables ring) ring.weights ring.modulus.value (compare (variables ring)) order lawful.domain u.product cols qs t.0 t.1 runs weighed pos lt below u.progress.underway (new ++ sifted.dropped ∷ []) rest s c vectors found.0 taken with_dropped

            pub rest_below : IsOver (compare (variables ring)) (key_of (variables ring) t.0) (sum_of (variables ring) kept)
            unfolding all
            rest_below = subst (λ z. IsOver (compare (variables ring)) (key_of (variables ring) t.0) (sum_of (variables ring) z)) kept_nil (sifted.over (key_of (variables ring) t.0) all.0)

            -- what is left has covered keys alone
            covered_next : Supports ring.modulus.value (total (variables ring) new) (λ k. IsUncovered F k → ⊥)
            covered_next k nz = go (occurs (sum_of (variables ring) kept) k)
              where
                go : HasKey (sum_of (variables ring) kept) k ⊎ (coefficient (sum_of (variables ring) kept) k ≡ 0) → IsUncovered F k → ⊥
                go (inl h) = at_key (λ l. IsUncovered F l → ⊥) (sum_of (variables ring) kept) k sifted.covered h
                go (inr z) = u.covered k (with_key (variables ring) ring.modulus.value (compare (variables ring)) order K t.1 runs below k (λ q. nz (IsCongruent_trans (IsCongruent_trans (added.by_key k) (IsCongruent_of ring.modulus.value _ _ (coefficient-append (total (variables ring) runs) (sum_of (variables ring) kept) k ∙ ap (λ y. coefficient (total (variables ring) runs) k + y) z ∙ omega arith))) q)))

            pub underway_next : IsColumnUnderway ring compare cols key (qs ++ (record { index = s.0; residue = c; monomial = s.1 }) ∷ []) new (total (variables ring) new)
            unfolding all
            underway_next = record {
              product = u.product;
              of_column = u.of_column;
              dropped = u.dropped ++ sifted.dropped;
              progress = parted u.product (qs ++ (record { index = s.0; residue = c; monomial = s.1 }) ∷ []) u.dropped sifted.dropped [] new (total (variables ring) (new ++ sifted.dropped ∷ [])) (total (variables ring) new)
                  (record { lists = tt; underway = all.1; stay = u.progress.stay; reduced = u.progress.reduced; sum = all.2 (sum_of (variables ring) u.dropped) u.progress.sum })
                  lists (IsSame_of ring.modulus.value _ _ (total-push (variables ring) new sifted.dropped)) sifted.terms sifted.free covered_next;
              covered = covered_next;
              last = Each_append _ qs (record { index = s.0; residue = c; monomial = s.1 } ∷ []) u.last (is_last, tt);
            }

          -- or it cannot be made
          pub failing_is : (g : Terms) (stop : VectStop) (a last : Monomial) → g ≡ get_or cols s.0 [] → stop ≡ Degree a last → SubtractionStops s.1 g stop → IsFailing ring compare cols key qs s last
          failing_is g stop a last eg es h = record {
            product = u.product;
            of_column = u.of_column;
            quotients = u.progress.underway.quotients;
            met = u.progress.underway.met;
            due = failing_product (variables ring) ring.weights ring.modulus.value (compare (variables ring)) order lawful.domain u.product cols qs t.0 t.1 runs weighed pos lt below u.progress.underway s g stop a last vectors found.0 eg es h;
          }
