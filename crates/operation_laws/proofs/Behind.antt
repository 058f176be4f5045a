-- The part of a reduced basis behind the first q positions, position over term, is one of what the module has there
use Rattle.std.proofs.Common.{Greater, Less, List, Ordering, [], ap, ap₂, arith, get_or, inl, inr, length, refl, subst, sym, true, ℕ, ◌+◌, ◌-◌, ◌<◌, ◌∙◌, ◌∷◌, ◌≡◌, ◌≤◌, ◌⊎◌}
use Rattle.std.proofs.lemmas.Bool.Decides.{nat_tests}
use Rattle.std.proofs.lemmas.Bool.{cases_lt}
use Rattle.std.specs.Ordering.{ordering_then}
use Rattle.std.specs.Prelude.{nat_lt, ◌↔◌}
use Rattle.residues.proofs.Congruences.{IsCongruent_of, IsCongruent_sym, IsCongruent_trans}
use Rattle.residues.specs.Residues.{IsCongruent}
use Rattle.monomials.specs.Exponents.{Exponents}
use Rattle.formal_sums.proofs.Combining.{Each_map, IsMember_itself, IsMember_same, IsMember_scale}
use Rattle.formal_sums.proofs.Sameness.{IsSame_of}
use Rattle.formal_sums.specs.Combinations.{IsMember}
use Rattle.formal_sums.specs.FormalSums.{Each, FormalSum, HasRank, Key, coefficient, scale, shift}
use Rattle.orders.proofs.Lexicographic.{nat_cmp-add}
use Rattle.orders.specs.KeyOrders.{Descends, KeyDivides, pot}
use Rattle.orders.specs.MonomialOrders.{IsMonomialOrder}
use Rattle.bases.proofs.Leading.{IsLead_of_monic, one_not_zero, positive}
use Rattle.bases.specs.Bases.{IsCovered, IsReducedBasis}
use Rattle.bases.specs.Leads.{IsLead, IsMonicLead, IsNormal, head_key, leads}
use Rattle.bases.specs.Settings.{IsLawful, Setting}
use Rattle.division_laws.proofs.Keeping.{IsDownClosed_position}
use Rattle.division_laws.specs.Elimination.{is_from_position}
use Rattle.syzygy_laws.proofs.Marking.{coefficient-raised, raised_none}
use Rattle.syzygy_laws.specs.Syzygies.{raised}
use Rattle.syzygy_laws.proofs.Choosing.{Choice, choice, get_or-map, length-map}
use Rattle.syzygy_laws.proofs.KernelParts.{all_kept_normal, raised_lowered}
use Rattle.operation_laws.proofs.Colon.{IsLinear_lowered, IsLinear_raised, le_true, lowered-scale, lowered_raised, raised-scale}
use Rattle.operation_laws.proofs.Eliminate.{Each_kept, IsKept_of, kept_generates}
use Rattle.operation_laws.proofs.Kernel.{all_kept_raised}
use Rattle.operation_laws.proofs.Linear.{Each_of_map, Each_tabulate, Each_to_map, IsMember_each, IsMember_linear}
use Rattle.operation_laws.proofs.RunFacts.{run_of}
use Rattle.operation_laws.specs.Operations.{IsRun}
use Rattle.operation_laws.proofs.Running.{lawful_position}
use Rattle.syzygy_laws.specs.Kernels.{all_kept, kept_list, kernel_of, lowered, pot_setting}

pub lt_of : (a b : ℕ) → nat_lt a b ≡ true → a < b
lt_of a b e = grind (arith, nat_tests)

-- different places of a choice
pub place_apart : (f : ℕ → ℕ) (m : ℕ) → ((i j : ℕ) → i < j → j < m → f i < f j) → (i j : ℕ) → i < m → j < m → (i ≡ j → ⊥) → f i ≡ f j → ⊥
place_apart f m rising i j h k ne e = go (cases i j)
  where
    cases : (i j : ℕ) → (i < j) ⊎ ((j < i) ⊎ (i ≡ j))
    cases i j = grind arith

    go : (i < j) ⊎ ((j < i) ⊎ (i ≡ j)) → ⊥
    go (inl lt) = let q = rising i j lt k in omega (arith, q, e)
    go (inr (inl lt)) = let q = rising j i lt h in omega (arith, q, e)
    go (inr (inr d)) = ne d

-- ---- raised vectors
pub raised_head : {n : ℕ} (q : ℕ) (h : FormalSum n) → (h ≡ [] → ⊥) → head_key (raised q h) ≡ (q + (head_key h).0, (head_key h).1)
raised_head q [] ne = absurd (ne refl)
raised_head q (t ∷ v) ne = refl

pub unraise : {n : ℕ} (q : ℕ) (x y : Key n) → ◌≡◌ {A = Key n} (q + x.0, x.1) (q + y.0, y.1) → x ≡ y
unraise q x y e = ap₂ (λ a b. (a, b)) (let z : q + x.0 ≡ q + y.0 = ap (λ k. k.0) e in omega (arith, z)) (ap (λ k. k.1) e)

module _ {n : ℕ} (monomials : Exponents n → Exponents n → Ordering) (q : ℕ) where
  pub compare_raised : (k l : Key n) → pot monomials (q + k.0, k.1) (q + l.0, l.1) ≡ pot monomials k l
  compare_raised k l = ap (λ x. ordering_then x (monomials k.1 l.1)) (nat_cmp-add q l.0 k.0)

  pub descends_raised : (h : FormalSum n) → Descends (pot monomials) (raised q h) → Descends (pot monomials) h
  descends_raised [] d = tt
  descends_raised (t ∷ v) d = (
    Each_map _ (λ u. pot monomials t.0 u.0 ≡ Greater) v (λ u e. sym (compare_raised t.0 u.0) ∙ e) (Each_to_map (λ u. pot monomials (q + t.0.0, t.0.1) u.0 ≡ Greater) (λ u. ((q + u.0.0, u.0.1), u.1)) v d.0),
    descends_raised v d.1,
  )

  module _ (S : Setting n) (r m : ℕ) where
    pub normal_raised : (h : FormalSum n) → IsNormal (pot_setting S.weights S.modulus r monomials) (raised q h) → IsNormal (pot_setting S.weights S.modulus m monomials) h
    normal_raised h a = record {
      descends = descends_raised h a.descends;
      residues = Each_to_map (λ t. (0 < t.1) × (t.1 < S.modulus)) (λ u. ((q + u.0.0, u.0.1), u.1)) h a.residues;
    }

    pub monic_raised : (h : FormalSum n) (k : Key n) → IsMonicLead (pot_setting S.weights S.modulus r monomials) (raised q h) (q + k.0, k.1) → IsMonicLead (pot_setting S.weights S.modulus m monomials) h k
    monic_raised h k a = record {
      one = IsCongruent_trans (IsCongruent_of S.modulus _ _ (sym (coefficient-raised q h k))) a.one;
      above = λ l lt. IsCongruent_trans (IsCongruent_of S.modulus _ _ (sym (coefficient-raised q h l))) (a.above (q + l.0, l.1) (compare_raised k l ∙ lt));
    }

    pub lead_raised : (a : FormalSum n) (k : Key n) → IsLead (pot_setting S.weights S.modulus m monomials) a k → IsLead (pot_setting S.weights S.modulus r monomials) (raised q a) (q + k.0, k.1)
    lead_raised a k lead = record {
      nonzero = λ z. lead.nonzero (IsCongruent_trans (IsCongruent_of S.modulus _ _ (sym (coefficient-raised q a k))) z);
      above = λ l lt. over l lt (cases_lt l.0 q);
    }
      where
        over : (l : Key n) → pot monomials (q + k.0, k.1) l ≡ Less → (l.0 < q) ⊎ (q ≤ l.0) → IsCongruent S.modulus (coefficient (raised q a) l) 0
        over l lt (inl h) = IsCongruent_of S.modulus _ 0 (raised_none q a l h)
        over l lt (inr h) =
            let x : Key n = (l.0 - q, l.1) in
            let e : (q + x.0, x.1) ≡ l = ap (λ i. (i, l.1)) (omega (arith, h)) in
            let s : pot monomials k x ≡ Less = sym (compare_raised k x) ∙ ap (pot monomials (q + k.0, k.1)) e ∙ lt in
            IsCongruent_trans (IsCongruent_of S.modulus _ _ (ap (coefficient (raised q a)) (sym e) ∙ coefficient-raised q a x)) (lead.above x s)

module _ {n : ℕ} (S : Setting n) (monomials : Exponents n → Exponents n → Ordering) (q s : ℕ) (L G : List (FormalSum n)) (lawful : IsLawful S) (o : IsMonomialOrder monomials) (l_ranks : Each (HasRank (q + s)) L)
    (reduced : IsReducedBasis (pot_setting S.weights S.modulus (q + s) monomials) L G) where
  run : IsRun (pot_setting S.weights S.modulus (q + s) monomials) L G
  run = run_of (pot_setting S.weights S.modulus (q + s) monomials) (lawful_position monomials (q + s) S o lawful) L G l_ranks reduced

  behind_to : (a : FormalSum n) → IsMember S.modulus (kernel_of q G) a → IsMember S.modulus L (raised q a)
  behind_to a m =
      IsMember_linear (positive S lawful) (raised q) (IsLinear_raised q) (kernel_of q G) L
      (Each_of_map _ (lowered q) (kept_list (is_from_position q) G)
      (Each_map _ (λ g. (c : ℕ) (e : Exponents n) → IsMember S.modulus L (raised q (scale c e (lowered q g)))) (kept_list (is_from_position q) G)
      (λ g h c e. IsMember_same L (scale c e g) _ (IsSame_of S.modulus _ _ (sym (raised-scale q c e (lowered q g) ∙ ap (scale c e) (raised_lowered q g h.1)))) (IsMember_scale (positive S lawful) L c e g h.0))
      (Each_kept (IsMember S.modulus L) (is_from_position q) G (Each_tabulate (IsMember S.modulus L) [] G reduced.reduced.basis.members)))) a m

  behind_from : (a : FormalSum n) → IsMember S.modulus L (raised q a) → IsMember S.modulus (kernel_of q G) a
  behind_from a m =
      let T = pot_setting S.weights S.modulus (q + s) monomials in
      let K : List (FormalSum n) = kernel_of q G in
      IsMember_same K (lowered q (raised q a)) a (IsSame_of S.modulus _ _ (lowered_raised q a))
      (IsMember_linear (positive S lawful) (lowered q) (IsLinear_lowered q) (kept_list (is_from_position q) G) K
      (Each_map (λ g. IsMember S.modulus K (lowered q g)) (λ g. (c : ℕ) (e : Exponents n) → IsMember S.modulus K (lowered q (scale c e g))) (kept_list (is_from_position q) G)
      (λ g k c e. IsMember_same K (scale c e (lowered q g)) _ (IsSame_of S.modulus _ _ (sym (lowered-scale q c e g))) (IsMember_scale (positive S lawful) K c e (lowered q g) k))
      (Each_to_map (IsMember S.modulus K) (lowered q) (kept_list (is_from_position q) G) (IsMember_each S.modulus K))) (raised q a)
      (kept_generates T (lawful_position monomials (q + s) S o lawful) L G run.list reduced.reduced.normal reduced.reduced.basis (is_from_position q) (IsDownClosed_position T monomials q refl) (raised q a) m
      (IsKept_of S.modulus (is_from_position q) (raised q a) (all_kept_raised q a))))

  -- the part behind generates what of the module vanishes before
  pub behind_exact : (a : FormalSum n) → IsMember S.modulus (kernel_of q G) a ↔ IsMember S.modulus L (raised q a)
  behind_exact a = (behind_to a, behind_from a)

  pub chosen : Choice (all_kept (is_from_position q)) [] G (kept_list (is_from_position q) G)
  chosen = choice (all_kept (is_from_position q)) [] G

  pub in_kept : (i : ℕ) → i < length (kernel_of q G) → i < length (kept_list (is_from_position q) G)
  in_kept i lt = subst (λ m. i < m) (length-map (lowered q) (kept_list (is_from_position q) G)) lt

  pub at_place : (i j : ℕ) → get_or (kept_list (is_from_position q) G) i [] ≡ get_or G j [] → all_kept (is_from_position q) (get_or G j []) ≡ true → raised q (get_or (kernel_of q G) i []) ≡ get_or G j []
  at_place i j e passes = ap (raised q) (get_or-map (lowered q) [] (kept_list (is_from_position q) G) i ∙ ap (lowered q) e) ∙ raised_lowered q (get_or G j []) passes

  pub raised_at : (i : ℕ) → i < length (kernel_of q G) → raised q (get_or (kernel_of q G) i []) ≡ get_or G (chosen.place i) []
  raised_at i lt = at_place i (chosen.place i) (chosen.same i (in_kept i lt)) (chosen.passes i (in_kept i lt))

  pub place_in : (i : ℕ) → i < length (kernel_of q G) → chosen.place i < length G
  place_in i lt = chosen.inside i (in_kept i lt)

  pub lead_at : (i j : ℕ) → j < length G → raised q (get_or (kernel_of q G) i []) ≡ get_or G j [] → leads G j ≡ (q + (leads (kernel_of q G) i).0, (leads (kernel_of q G) i).1)
  lead_at i j lt e = ap head_key (sym e) ∙ raised_head q (get_or (kernel_of q G) i []) ne
    where
      ne : get_or (kernel_of q G) i [] ≡ [] → ⊥
      ne z =
          let empty : get_or G j [] ≡ [] = sym e ∙ ap (raised q) z in
          one_not_zero S lawful (IsCongruent_sym (subst (λ g. IsCongruent S.modulus (coefficient g (leads G j)) 1) empty (reduced.reduced.monic j lt).one))

  -- that part is a reduced basis
  pub behind_reduced : IsReducedBasis (pot_setting S.weights S.modulus s monomials) (kernel_of q G) (kernel_of q G)
  behind_reduced = record {
    reduced = record {
      basis = record { members = IsMember_itself S.modulus (kernel_of q G); covers = covers };
      normal = λ i lt. normal_raised monomials q S (q + s) s (get_or (kernel_of q G) i []) (subst (IsNormal T) (sym (raised_at i lt)) (reduced.reduced.normal (chosen.place i) (place_in i lt)));
      monic = monic;
      apart = apart;
    };
    descends = λ i j lt h.
        let hi : i < length (kernel_of q G) = omega (arith, lt, h) in
        sym (compare_raised monomials q (leads (kernel_of q G) i) (leads (kernel_of q G) j)) ∙ ap₂ (pot monomials) (sym (head i hi)) (sym (head j h))
        ∙ reduced.descends (chosen.place i) (chosen.place j) (chosen.rising i j lt (in_kept j h)) (place_in j h);
  }
    where
      T : Setting n
      T = pot_setting S.weights S.modulus (q + s) monomials

      head : (i : ℕ) → i < length (kernel_of q G) → leads G (chosen.place i) ≡ (q + (leads (kernel_of q G) i).0, (leads (kernel_of q G) i).1)
      head i lt = lead_at i (chosen.place i) (place_in i lt) (raised_at i lt)

      monic : (i : ℕ) → i < length (kernel_of q G) → IsMonicLead (pot_setting S.weights S.modulus s monomials) (get_or (kernel_of q G) i []) (leads (kernel_of q G) i)
      monic i lt =
          monic_raised monomials q S (q + s) s (get_or (kernel_of q G) i []) (leads (kernel_of q G) i)
          (subst (λ k. IsMonicLead T (raised q (get_or (kernel_of q G) i [])) k) (head i lt) (subst (λ g. IsMonicLead T g (leads G (chosen.place i))) (sym (raised_at i lt)) (reduced.reduced.monic (chosen.place i) (place_in i lt))))

      kernel_lead : (i : ℕ) → i < length (kernel_of q G) → IsLead (pot_setting S.weights S.modulus s monomials) (get_or (kernel_of q G) i []) (leads (kernel_of q G) i)
      kernel_lead i lt = IsLead_of_monic (pot_setting S.weights S.modulus s monomials) (lawful_position monomials s S o lawful) (monic i lt)

      apart : (i j : ℕ) (k : Key n) → i < length (kernel_of q G) → j < length (kernel_of q G) → (i ≡ j → ⊥) → KeyDivides (leads (kernel_of q G) j) k → IsCongruent S.modulus (coefficient (get_or (kernel_of q G) i []) k) 0
      apart i j k hi hj ne d =
          IsCongruent_trans (IsCongruent_of S.modulus _ _ (sym (coefficient-raised q (get_or (kernel_of q G) i []) k) ∙ ap (λ g. coefficient g (q + k.0, k.1)) (raised_at i hi)))
          (reduced.reduced.apart (chosen.place i) (chosen.place j) (q + k.0, k.1) (place_in i hi) (place_in j hj)
          (place_apart chosen.place (length (kept_list (is_from_position q) G)) chosen.rising i j (in_kept i hi) (in_kept j hj) ne)
          (d.0, ap (shift d.0) (head j hj) ∙ ap (λ x. (q + x.0, x.1)) d.1))

      covers : (a : FormalSum n) (k : Key n) → IsMember S.modulus (kernel_of q G) a → IsLead (pot_setting S.weights S.modulus s monomials) a k → IsCovered (pot_setting S.weights S.modulus s monomials) (kernel_of q G) k
      covers a k m lead = found (reduced.reduced.basis.covers (raised q a) (q + k.0, k.1) ((behind_exact a).0 m) (lead_raised monomials q S (q + s) s a k lead))
        where
          found : IsCovered T G (q + k.0, k.1) → IsCovered (pot_setting S.weights S.modulus s monomials) (kernel_of q G) k
          found (j, lt, first, d) =
              let z : (leads G j).0 ≡ q + k.0 = ap (λ x. x.0) d.1 in
              let passes : all_kept (is_from_position q) (get_or G j []) ≡ true =
              all_kept_normal (pot_setting S.weights S.modulus (q + s) monomials) (is_from_position q) (lawful_position monomials (q + s) S o lawful) (IsDownClosed_position (pot_setting S.weights S.modulus (q + s) monomials) monomials q refl) (get_or G j []) (reduced.reduced.normal j lt)
              (le_true q (leads G j).0 (omega (arith, z))) in
              let c = chosen.all j lt passes in
              let h = lead_at c.0 j lt (at_place c.0 j c.2 passes) in (
                c.0,
                subst (λ m. c.0 < m) (sym (length-map (lowered q) (kept_list (is_from_position q) G))) c.1,
                kernel_lead c.0 (subst (λ m. c.0 < m) (sym (length-map (lowered q) (kept_list (is_from_position q) G))) c.1),
                (d.0, unraise q (shift d.0 (leads (kernel_of q G) c.0)) k (sym (ap (shift d.0) h) ∙ d.1)),
              )

  -- what the kernel part covers, the basis does behind the first positions
  pub behind_covered :
      (k : Key n) → IsCovered (pot_setting S.weights S.modulus s monomials) (kernel_of q G) k
      → IsCovered (pot_setting S.weights S.modulus (q + s) monomials) G (q + k.0, k.1)
  behind_covered k (i, lt, first, d) = (
    chosen.place i,
    place_in i lt,
    IsLead_of_monic (pot_setting S.weights S.modulus (q + s) monomials) (lawful_position monomials (q + s) S o lawful) (reduced.reduced.monic (chosen.place i) (place_in i lt)),
    (d.0, ap (shift d.0) (lead_at i (chosen.place i) (place_in i lt) (raised_at i lt)) ∙ ap (λ x. (q + x.0, x.1)) d.1),
  )
