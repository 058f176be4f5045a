-- The two parts of a reduced basis of a marked list, position over term: first components, and kernel
use Rattle.std.proofs.Common.{Bool, Equal, Greater, Less, List, Ordering, [], ap, append-nil, ap₂, arith, cond, false, get_or, inl, inr, length, refl, subst, suc, sym, true, ℕ, ◌*◌, ◌++◌, ◌+◌, ◌<◌, ◌∙◌, ◌∷◌, ◌≡◌, ◌≤◌, ◌⊎◌}
use Rattle.std.proofs.lemmas.Bool.Decides.{nat_tests}
use Rattle.std.proofs.lemmas.Bool.{cases_lt}
use Rattle.std.specs.Ordering.{nat_cmp}
use Rattle.std.specs.Prelude.{nat_lt, ◌↔◌}
use Rattle.residues.proofs.Congruences.{IsCongruent_of, IsCongruent_sym, IsCongruent_trans}
use Rattle.residues.specs.Residues.{IsCongruent}
use Rattle.monomials.specs.Exponents.{Exponents, unit}
use Rattle.formal_sums.proofs.Combining.{Each_map, IsMember_same, IsMember_scale}
use Rattle.formal_sums.proofs.OfRank.{IsMember_of, IsOfRank_member, IsOfRank_of, coefficient_past}
use Rattle.formal_sums.proofs.Sameness.{IsSame_of, IsSame_refl}
use Rattle.formal_sums.proofs.WeightedSums.{coefficient-append, indicator_other}
use Rattle.formal_sums.specs.Combinations.{IsMember, IsSyzygy, combination}
use Rattle.formal_sums.specs.FormalSums.{Each, FormalSum, HasRank, Key, coefficient, indicator, scale}
use Rattle.orders.proofs.Lexicographic.{nat_cmp-equal, nat_cmp-less, then_less}
use Rattle.orders.specs.KeyOrders.{Descends, KeyDivides, pot}
use Rattle.orders.specs.MonomialOrders.{IsMonomialOrder}
use Rattle.bases.proofs.Leading.{IsLead_of_monic, positive}
use Rattle.bases.specs.Bases.{IsCovered, IsReducedBasis}
use Rattle.bases.specs.Leads.{IsLead, IsMonicLead, IsNormal, head_key, leads}
use Rattle.bases.specs.Settings.{IsLawful, Setting}
use Rattle.syzygy_laws.proofs.Marking.{combination-marked, raised_none}
use Rattle.syzygy_laws.specs.Syzygies.{marked, raised}
use Rattle.syzygy_laws.proofs.Choosing.{Choice, choice, get_or-map, length-map}
use Rattle.operation_laws.proofs.Behind.{behind_covered, behind_exact, behind_reduced, lt_of, place_apart}
use Rattle.operation_laws.proofs.RankFacts.{marked_rank}
use Rattle.operation_laws.proofs.Linear.{Each_at, IsMember_each, IsMember_linear}
use Rattle.operation_laws.proofs.More.{picked_rank}
use Rattle.operation_laws.proofs.OneMark.{syzygies_exact}
use Rattle.operation_laws.proofs.Quotient.{IsLinear_picked, lt_false, lt_true, picked-append, picked-scale, picked_all, picked_none}
use Rattle.operation_laws.proofs.Running.{lawful_position, through}
use Rattle.operation_laws.specs.Lifts.{first_parts_of, led_before}
use Rattle.syzygy_laws.specs.Kernels.{kernel_of, pot_setting}
use Rattle.operation_laws.specs.Operations.{first_components, picked}

-- ---- first components
coefficient_first : {n : ℕ} (q : ℕ) (v : FormalSum n) (k : Key n) → k.0 < q → coefficient (first_components q v) k ≡ coefficient v k
coefficient_first q [] k lt = refl
coefficient_first {n} q (t ∷ v) k lt = go (nat_lt t.0.0 q) refl (coefficient_first q v k lt)
  where
    not_lt : (a b : ℕ) → nat_lt a b ≡ false → b ≤ a
    not_lt a b e = grind (arith, nat_tests)

    go : (b : Bool) → nat_lt t.0.0 q ≡ b → coefficient (first_components q v) k ≡ coefficient v k → coefficient (cond b (t ∷ first_components q v) (first_components q v)) k ≡ t.1 * indicator k t.0 + coefficient v k
    go true e r = ap (λ x. t.1 * indicator k t.0 + x) r
    go false e r =
        let ge : q ≤ t.0.0 = not_lt t.0.0 q e in
        let d : indicator k t.0 ≡ 0 = indicator_other k t.0 (λ d. let z : k.0 ≡ t.0.0 = ap (λ x. x.0) d in omega (arith, z, ge, lt)) in
        rw d (omega (arith, r))

Each_picked : {n : ℕ} (P : Key n × ℕ → Type 0) (test : ℕ → Bool) (v : FormalSum n) → Each P v → Each P (picked test v)
Each_picked P test [] h = tt
Each_picked {n} P test (t ∷ v) h = go (test t.0.0) (Each_picked P test v h.1)
  where
    go : (b : Bool) → Each P (picked test v) → Each P (cond b (t ∷ picked test v) (picked test v))
    go true r = (h.0, r)
    go false r = r

Descends_picked : {n : ℕ} (compare : Key n → Key n → Ordering) (test : ℕ → Bool) (v : FormalSum n) → Descends compare v → Descends compare (picked test v)
Descends_picked compare test [] d = tt
Descends_picked {n} compare test (t ∷ v) d = go (test t.0.0) (Descends_picked compare test v d.1)
  where
    go : (b : Bool) → Descends compare (picked test v) → Descends compare (cond b (t ∷ picked test v) (picked test v))
    go true r = (Each_picked (λ u. compare t.0 u.0 ≡ Greater) test v d.0, r)
    go false r = r

first_head : {n : ℕ} (q : ℕ) (g : FormalSum n) → nat_lt (head_key g).0 q ≡ true → head_key (first_components q g) ≡ head_key g
first_head q [] e = refl
first_head q (t ∷ v) e = ap (λ b. head_key (cond b (t ∷ first_components q v) (first_components q v))) e

-- the first components of the multiples of marked members are multiples of the members
marked_each :
    {n p : ℕ} → 0 < p → (q i : ℕ) (F H : List (FormalSum n)) → Each (HasRank q) H → Each (IsMember p F) H
    → Each (λ g. (c : ℕ) (e : Exponents n) → IsMember p F (first_components q (scale c e g))) (marked q i H)
marked_each pos q i F [] r m = tt
marked_each {n} {p} pos q i F (h ∷ H) r m = (
  λ c e. IsMember_same F (scale c e h) _ (IsSame_of p _ _ (sym (picked-scale (λ j. nat_lt j q) c e (h ++ mark) ∙ ap (scale c e) first_marked))) (IsMember_scale pos F c e h m.0),
  marked_each pos q (suc i) F H r.1 m.1,
)
  where
    mark : FormalSum n
    mark = ((q + i, unit n), 1) ∷ []

    first_marked : first_components q (h ++ mark) ≡ h
    first_marked =
        picked-append (λ j. nat_lt j q) h mark
        ∙ ap₂ ◌++◌ (picked_all (λ j. nat_lt j q) h (Each_map (λ t. t.0.0 < q) (λ t. nat_lt t.0.0 q ≡ true) h (λ t a. lt_true t.0.0 q a) r.0)) (picked_none (λ j. nat_lt j q) mark (lt_false (q + i) q (omega arith), tt))
        ∙ append-nil h

module _ {n : ℕ} (S : Setting n) (monomials : Exponents n → Exponents n → Ordering) (q : ℕ) (F G : List (FormalSum n)) (lawful : IsLawful S) (o : IsMonomialOrder monomials) (f_ranks : Each (HasRank q) F)
    (reduced : IsReducedBasis (pot_setting S.weights S.modulus (q + length F) monomials) (marked q 0 F) G) where
  -- the kernel part has exactly the syzygies
  pub kernel_exact : (a : FormalSum n) → IsMember S.modulus (kernel_of q G) a ↔ IsSyzygy S.modulus F a
  kernel_exact a = through (behind_exact S monomials q (length F) (marked q 0 F) G lawful o (marked_rank q F f_ranks) reduced a) (syzygies_exact (positive S lawful) q F f_ranks a)

  -- the kernel part is the reduced basis of the syzygies
  pub kernel_reduced : IsReducedBasis (pot_setting S.weights S.modulus (length F) monomials) (kernel_of q G) (kernel_of q G)
  kernel_reduced = behind_reduced S monomials q (length F) (marked q 0 F) G lawful o (marked_rank q F f_ranks) reduced

  -- what the kernel part covers, the basis does behind the first positions
  pub covered_raised :
      (k : Key n) → IsCovered (pot_setting S.weights S.modulus (length F) monomials) (kernel_of q G) k
      → IsCovered (pot_setting S.weights S.modulus (q + length F) monomials) G (q + k.0, k.1)
  covered_raised k h = behind_covered S monomials q (length F) (marked q 0 F) G lawful o (marked_rank q F f_ranks) reduced k h

  first_chosen : Choice (λ g. nat_lt (head_key g).0 q) [] G (led_before q G)
  first_chosen = choice (λ g. nat_lt (head_key g).0 q) [] G

  in_led : (i : ℕ) → i < length (first_parts_of q G) → i < length (led_before q G)
  in_led i lt = subst (λ m. i < m) (length-map (first_components q) (led_before q G)) lt

  first_at : (i j : ℕ) → get_or (led_before q G) i [] ≡ get_or G j [] → get_or (first_parts_of q G) i [] ≡ first_components q (get_or G j [])
  first_at i j e = get_or-map (first_components q) [] (led_before q G) i ∙ ap (first_components q) e

  -- the first components are the reduced basis of the list
  pub first_reduced : IsReducedBasis (pot_setting S.weights S.modulus q monomials) F (first_parts_of q G)
  first_reduced = record {
    reduced = record {
      basis = record { members = members; covers = covers };
      normal = λ i lt. let g = reduced.reduced.normal (first_chosen.place i) (place i lt) in
          subst (IsNormal (pot_setting S.weights S.modulus q monomials)) (sym (at i lt))
          (record { descends = Descends_picked (pot monomials) (λ j. nat_lt j q) (get_or G (first_chosen.place i) []) g.descends; residues = Each_picked (λ t. (0 < t.1) × (t.1 < S.modulus)) (λ j. nat_lt j q) (get_or G (first_chosen.place i) []) g.residues });
      monic = monic;
      apart = apart;
    };
    descends = λ i j lt h.
        let hi : i < length (first_parts_of q G) = omega (arith, lt, h) in
        ap₂ (pot monomials) (head i hi) (head j h) ∙ reduced.descends (first_chosen.place i) (first_chosen.place j) (first_chosen.rising i j lt (in_led j h)) (place j h);
  }
    where
      place : (i : ℕ) → i < length (first_parts_of q G) → first_chosen.place i < length G
      place i lt = first_chosen.inside i (in_led i lt)

      at : (i : ℕ) → i < length (first_parts_of q G) → get_or (first_parts_of q G) i [] ≡ first_components q (get_or G (first_chosen.place i) [])
      at i lt = first_at i (first_chosen.place i) (first_chosen.same i (in_led i lt))

      head : (i : ℕ) → i < length (first_parts_of q G) → leads (first_parts_of q G) i ≡ leads G (first_chosen.place i)
      head i lt = ap head_key (at i lt) ∙ first_head q (get_or G (first_chosen.place i) []) (first_chosen.passes i (in_led i lt))

      members : (i : ℕ) → i < length (first_parts_of q G) → IsMember S.modulus F (get_or (first_parts_of q G) i [])
      members i lt =
          subst (IsMember S.modulus F) (sym (at i lt))
          (IsMember_linear (positive S lawful) (first_components q) (IsLinear_picked (λ j. nat_lt j q)) (marked q 0 F) F (marked_each (positive S lawful) q 0 F F f_ranks (IsMember_each S.modulus F)) (get_or G (first_chosen.place i) [])
          (reduced.reduced.basis.members (first_chosen.place i) (place i lt)))

      below : (i : ℕ) → i < length (first_parts_of q G) → (leads G (first_chosen.place i)).0 < q
      below i lt = lt_of _ q (first_chosen.passes i (in_led i lt))

      -- the coefficient of a member, before q and from q on
      value : (P : ℕ → Type 0) → P 0 → (i : ℕ) → i < length (first_parts_of q G) → (k : Key n) → P (coefficient (get_or G (first_chosen.place i) []) k) → P (coefficient (get_or (first_parts_of q G) i []) k)
      value P none i lt k h = subst (λ g. P (coefficient g k)) (sym (at i lt)) (go (cases_lt k.0 q))
        where
          go : (k.0 < q) ⊎ (q ≤ k.0) → P (coefficient (first_components q (get_or G (first_chosen.place i) [])) k)
          go (inl low) = subst P (sym (coefficient_first q (get_or G (first_chosen.place i) []) k low)) h
          go (inr high) = subst P (sym (coefficient_past q (first_components q (get_or G (first_chosen.place i) [])) (picked_rank q (get_or G (first_chosen.place i) [])) k high)) none

      zero_is : IsCongruent S.modulus 0 0
      zero_is = IsCongruent_of S.modulus 0 0 refl

      monic : (i : ℕ) → i < length (first_parts_of q G) → IsMonicLead (pot_setting S.weights S.modulus q monomials) (get_or (first_parts_of q G) i []) (leads (first_parts_of q G) i)
      monic i lt =
          let m = reduced.reduced.monic (first_chosen.place i) (place i lt) in
          subst (IsMonicLead (pot_setting S.weights S.modulus q monomials) (get_or (first_parts_of q G) i [])) (sym (head i lt)) (record {
            one = IsCongruent_trans (IsCongruent_of S.modulus _ _ (ap (λ g. coefficient g (leads G (first_chosen.place i))) (at i lt) ∙ coefficient_first q (get_or G (first_chosen.place i) []) (leads G (first_chosen.place i)) (below i lt))) m.one;
            above = λ l less. value (λ x. IsCongruent S.modulus x 0) zero_is i lt l (m.above l less);
          })

      apart : (i j : ℕ) (k : Key n) → i < length (first_parts_of q G) → j < length (first_parts_of q G) → (i ≡ j → ⊥) → KeyDivides (leads (first_parts_of q G) j) k → IsCongruent S.modulus (coefficient (get_or (first_parts_of q G) i []) k) 0
      apart i j k hi hj ne d =
          value (λ x. IsCongruent S.modulus x 0) zero_is i hi k
          (reduced.reduced.apart (first_chosen.place i) (first_chosen.place j) k (place i hi) (place j hj)
          (place_apart first_chosen.place (length (led_before q G)) first_chosen.rising i j (in_led i hi) (in_led j hj) ne)
          (subst (λ x. KeyDivides x k) (head j hj) d))

      covers : (v : FormalSum n) (k : Key n) → IsMember S.modulus F v → IsLead (pot_setting S.weights S.modulus q monomials) v k → IsCovered (pot_setting S.weights S.modulus q monomials) (first_parts_of q G) k
      covers v k m lead = found (reduced.reduced.basis.covers w k (IsMember_of (marked q 0 F) m.cofactors w (IsSame_refl S.modulus w)) w_lead)
        where
          w : FormalSum n
          w = combination (marked q 0 F) m.cofactors

          low : k.0 < q
          low = go (cases_lt k.0 q)
            where
              go : (k.0 < q) ⊎ (q ≤ k.0) → k.0 < q
              go (inl h) = h
              go (inr h) = absurd (lead.nonzero ((IsOfRank_member q F (λ i lt. IsOfRank_of S.modulus q (get_or F i []) (Each_at (HasRank q) [] F f_ranks i lt)) v m).past k h))

          same_at : (l : Key n) → l.0 < q → IsCongruent S.modulus (coefficient w l) (coefficient v l)
          same_at l h =
              let z : coefficient (raised q m.cofactors) l ≡ 0 = raised_none q m.cofactors l h in
              IsCongruent_trans ((combination-marked S.modulus q F m.cofactors m.positions).by_key l)
              (IsCongruent_trans (IsCongruent_of S.modulus (coefficient (combination F m.cofactors ++ raised q m.cofactors) l) (coefficient (combination F m.cofactors) l) (let e = coefficient-append (combination F m.cofactors) (raised q m.cofactors) l in omega (arith, e, z))) (m.sums.by_key l))

          w_lead : IsLead (pot_setting S.weights S.modulus (q + length F) monomials) w k
          w_lead = record {
            nonzero = λ z. lead.nonzero (IsCongruent_trans (IsCongruent_sym (same_at k low)) z);
            above = λ l less. IsCongruent_trans (same_at l (before l (then_less (nat_cmp l.0 k.0) (monomials k.1 l.1) less))) (lead.above l less);
          }
            where
              before : (l : Key n) → (nat_cmp l.0 k.0 ≡ Less) ⊎ ((nat_cmp l.0 k.0 ≡ Equal) × (monomials k.1 l.1 ≡ Less)) → l.0 < q
              before l (inl h) = let z : l.0 < k.0 = nat_cmp-less l.0 k.0 h in omega (arith, z, low)
              before l (inr h) = let z : l.0 ≡ k.0 = nat_cmp-equal l.0 k.0 h.0 in omega (arith, z, low)

          found : IsCovered (pot_setting S.weights S.modulus (q + length F) monomials) G k → IsCovered (pot_setting S.weights S.modulus q monomials) (first_parts_of q G) k
          found (j, lt, first, d) =
              let z : (leads G j).0 ≡ k.0 = ap (λ x. x.0) d.1 in
              let passes : nat_lt (leads G j).0 q ≡ true = lt_true (leads G j).0 q (omega (arith, z, low)) in
              let c = first_chosen.all j lt passes in (
                c.0,
                subst (λ m. c.0 < m) (sym (length-map (first_components q) (led_before q G))) c.1,
                IsLead_of_monic (pot_setting S.weights S.modulus q monomials) (lawful_position monomials q S o lawful) (monic c.0 (subst (λ m. c.0 < m) (sym (length-map (first_components q) (led_before q G))) c.1)),
                subst (λ x. KeyDivides x k) (sym (ap head_key (first_at c.0 j c.2) ∙ first_head q (get_or G j []) passes)) d,
              )
