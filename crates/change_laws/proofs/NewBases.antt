-- The basis in another order is the reduced one
use Rattle.std.proofs.Common.{Equal, Greater, Less, List, Ordering, [], ap, append-nil, arith, cond, get_or, inl, inr, length, refl, subst, sym, ℕ, ◌*◌, ◌++◌, ◌+◌, ◌-◌, ◌<◌, ◌∙◌, ◌∷◌, ◌≡◌, ◌≤◌, ◌⊎◌}
use Rattle.std.proofs.lemmas.Bool.{cases_eq, cases_lt}
use Rattle.std.proofs.lemmas.Bool.Decides.{eqb_tells}
use Rattle.std.specs.Prelude.{nat_eq}
use Rattle.residues.proofs.Congruences.{IsCongruent_add, IsCongruent_decide, IsCongruent_minus, IsCongruent_multiply, IsCongruent_of, IsCongruent_refl, IsCongruent_sym, IsCongruent_trans}
use Rattle.residues.specs.Residues.{IsCongruent}
use Rattle.monomials.specs.Exponents.{Exponents, times, unit}
use Rattle.formal_sums.proofs.Combining.{IsMember_scale, IsMember_zero}
use Rattle.formal_sums.proofs.OfRank.{IsOfRank_append, IsOfRank_member, IsOfRank_of, IsOfRank_scale}
use Rattle.formal_sums.proofs.Sameness.{IsSame_append, IsSame_of, IsSame_refl, IsSame_scale, IsSame_sym, IsSame_trans, coefficient-scale_unit}
use Rattle.formal_sums.proofs.WeightedSums.{coefficient-append, indicator_other, indicator_same, key_cases}
use Rattle.formal_sums.specs.Combinations.{IsMember}
use Rattle.formal_sums.specs.FormalSums.{FormalSum, IsOfRank, IsSame, Key, Term, coefficient, indicator, scale, shift}
use Rattle.orders.proofs.KeyOrdering.{KeyDivides_trans, less_of_greater, not_itself}
use Rattle.orders.specs.KeyOrders.{KeyDivides}
use Rattle.orders.specs.MonomialOrders.{IsAccessible, accessible}
use Rattle.bases.proofs.Leading.{IsLead_of_monic, positive}
use Rattle.bases.proofs.Normalizing.{HasLead, has_lead}
use Rattle.bases.proofs.Places.{IsDown, multiple, multiple_above}
use Rattle.bases.specs.Bases.{IsCovered, IsGroebnerBasis, IsReducedSet}
use Rattle.bases.specs.Leads.{IsLead, IsMonicList, leads}
use Rattle.bases.specs.Settings.{IsLawful, Setting}
use Rattle.division_laws.proofs.Dividing.{remainder_step, remainder_step_at}
use Rattle.change_laws.proofs.Expansions.{expansion_linear, expansion_one, expansion_zero}
use Rattle.change_laws.proofs.Listing.{by_variables}
use Rattle.change_laws.proofs.Modulo.{modulo_append, modulo_member, modulo_refl, modulo_same, modulo_trans}
use Rattle.change_laws.specs.Changes.{IsChange}
use Rattle.change_laws.specs.Combinations.{AreIndependent, IsSameModulo, expansion}
use Rattle.change_laws.specs.Standard.{AreDistinct, Has, power}

abbrev one_at : ℕ → ℕ → ℕ
one_at j k = cond (nat_eq k j) 1 0

one_at_same : (j : ℕ) → one_at j j ≡ 1
one_at_same j = elim (eqb_tells j j) [
  | inl e ↦ ap (λ b. cond b 1 0) e.0
  | inr e ↦ absurd (e.1 refl)
]

one_at_other : (j k : ℕ) → (k ≡ j → ⊥) → one_at j k ≡ 0
one_at_other j k ne = elim (eqb_tells k j) [
  | inl e ↦ absurd (ne e.1)
  | inr e ↦ ap (λ b. cond b 1 0) e.0
]

module _ {n : ℕ} (S : Setting n) (lawful : IsLawful S) (rank : 0 < S.rank) (F : List (FormalSum n))
    (of_rank : (i : ℕ) → i < length F → IsOfRank S.modulus 1 (get_or F i [])) (N : List (Exponents n)) (G : List (FormalSum n)) (change : IsChange S F N G) where
  p : ℕ
  p = S.modulus

  list : IsMonicList S G
  list = record { monic = change.monic; ranked = λ i lt. let e = change.positions i lt in omega (arith, e, rank) }

  -- each monomial is one of N or has a lead for a divisor
  pub sorted_out : (m : Exponents n) → Has N m ⊎ IsCovered S G (0, m)
  sorted_out = by_variables n (λ m. Has N m ⊎ IsCovered S G (0, m)) change.first step
    where
      step : (m : Exponents n) (i : ℕ) → i < n → Has N m ⊎ IsCovered S G (0, m) → Has N (times (power n i 1) m) ⊎ IsCovered S G (0, times (power n i 1) m)
      step m i lt (inl (k, kl, e)) = subst (λ x. Has N (times (power n i 1) x) ⊎ IsCovered S G (0, times (power n i 1) x)) e (change.closed k i kl lt)
      step m i lt (inr (j, jl, lead, d)) = inr (j, jl, lead, KeyDivides_trans (leads G j) (0, m) (0, times (power n i 1) m) d (power n i 1, refl))

  -- the key is not below k
  abbrev IsNotBelow : Key n → Key n → Type 0
  IsNotBelow k l = S.compare l k ≡ Less → ⊥

  -- what is not below k is k or above
  split : (k l : Key n) → IsNotBelow k l → (l ≡ k) ⊎ (S.compare k l ≡ Less)
  split k l h = go (S.compare l k) refl
    where
      go : (o : Ordering) → S.compare l k ≡ o → (l ≡ k) ⊎ (S.compare k l ≡ Less)
      go Less e = absurd (h e)
      go Equal e = inl (lawful.order.exact l k e)
      go Greater e = inr (less_of_greater lawful.order l k e)

  -- v is a combination of N modulo F, by the coefficients of v from k up
  pub record HasRest (k : Key n) (v : FormalSum n) : Type 0 where
    pub residues : ℕ → ℕ
    pub same : IsSameModulo S.modulus F v (expansion N residues)
    pub agrees : (j : ℕ) → j < length N → IsNotBelow k (0, get_or N j (unit n)) → IsCongruent S.modulus (residues j) (coefficient v (0, get_or N j (unit n)))

  abbrev Rests : Key n → Type 0
  Rests k = (v : FormalSum n) → IsOfRank S.modulus 1 v → ((l : Key n) → S.compare k l ≡ Less → IsCongruent S.modulus (coefficient v l) 0) → HasRest k v

  abbrev VanishesFrom : Key n → FormalSum n → Type 0
  VanishesFrom k v = (l : Key n) → IsNotBelow k l → IsCongruent S.modulus (coefficient v l) 0

  -- a vector that vanishes from k up
  rest_below : (k : Key n) → ((y : Key n) → IsDown S y k → Rests y) → (w : FormalSum n) → IsOfRank S.modulus 1 w → VanishesFrom k w → HasRest k w
  rest_below k ih w r vanish = go (has_lead S lawful w)
    where
      go : HasLead S w → HasRest k w
      go (inl z) = record {
        residues = λ j. 0;
        same = modulo_same F w (expansion N (λ j. 0)) (IsSame_trans z (IsSame_sym (expansion_zero N (λ j. 0) (λ j lt. IsCongruent_refl S.modulus 0))));
        agrees = λ j lt h. IsCongruent_sym (z.by_key (0, get_or N j (unit n)));
      }
      go (inr (y, lead)) = deeper (S.compare y k) refl
        where
          low : (y.0 < 1) ⊎ (1 ≤ y.0) → y.0 < S.rank
          low (inl lt) = omega (arith, lt, rank)
          low (inr le) = absurd (lead.nonzero (r.past y le))

          down : S.compare y k ≡ Less → HasRest k w
          down e =
              let h = ih y (low (cases_lt y.0 1), e) w r lead.above in
              record {
                residues = h.residues;
                same = h.same;
                agrees = λ j lt not_below. h.agrees j lt (λ d. not_below (lawful.order.total.trans (0, get_or N j (unit n)) y k d e));
              }

          deeper : (o : Ordering) → S.compare y k ≡ o → HasRest k w
          deeper Less e = down e
          deeper Equal e = absurd (lead.nonzero (vanish y (λ d. let f : Equal ≡ Less = sym e ∙ d in cc)))
          deeper Greater e = absurd (lead.nonzero (vanish y (λ d. let f : Greater ≡ Less = sym e ∙ d in cc)))

  -- k is one of N: its term is taken off
  rest_one : (k : Key n) → ((y : Key n) → IsDown S y k → Rests y) → k.0 ≡ 0 → Has N k.1 → Rests k
  rest_one k ih zero (j, lt, e) v r above = finish (rest_below k ih w rw_ vanish)
    where
      c : ℕ
      c = coefficient v k

      w : FormalSum n
      w = v ++ (k, (S.modulus - 1) * c) ∷ []

      at : (l : Key n) → coefficient w l ≡ coefficient v l + ((S.modulus - 1) * c * indicator l k + 0)
      at l = coefficient-append v ((k, (S.modulus - 1) * c) ∷ []) l

      key : k ≡ (0, get_or N j (unit n))
      key = ap (λ x. (x, k.1)) zero ∙ ap (λ x. (0, x)) (sym e)

      rw_ : IsOfRank S.modulus 1 w
      rw_ = IsOfRank_append v _ r (IsOfRank_of S.modulus 1 ((k, (S.modulus - 1) * c) ∷ []) (omega (arith, zero), tt))

      vanish : VanishesFrom k w
      vanish l h = by (split k l h)
        where
          by : (l ≡ k) ⊎ (S.compare k l ≡ Less) → IsCongruent S.modulus (coefficient w l) 0
          by (inl d) = subst (λ x. IsCongruent S.modulus (coefficient w x) 0) (sym d)
              (let i = indicator_same k k refl in
              IsCongruent_trans (IsCongruent_of S.modulus _ (c + (S.modulus - 1) * c) (at k ∙ (rw i (omega arith)))) (IsCongruent_minus S.modulus c (positive S lawful)))
          by (inr d) =
              let i = indicator_other l k (λ q. not_itself lawful.order k (subst (λ x. S.compare k x ≡ Less) q d)) in
              IsCongruent_trans (IsCongruent_of S.modulus _ (coefficient v l) (at l ∙ (rw i (omega arith)))) (above l d)

      finish : HasRest k w → HasRest k v
      finish h = record {
        residues = λ i. h.residues i + c * one_at j i;
        same = modulo_trans F (modulo_same F v (w ++ scale c (unit n) ((k, 1) ∷ [])) apart)
            (modulo_trans F (modulo_append F h.same (modulo_same F (scale c (unit n) ((k, 1) ∷ [])) (scale c (unit n) (expansion N (one_at j))) (IsSame_scale (positive S lawful) c (unit n) one)))
            (modulo_same F _ _ (IsSame_sym (expansion_linear c N h.residues (one_at j) (λ i. h.residues i + c * one_at j i) (λ i il. IsCongruent_refl S.modulus _)))));
        agrees = λ i il not_below. agree i il not_below (cases_eq i j);
      }
        where
          one : IsSame S.modulus ((k, 1) ∷ []) (expansion N (one_at j))
          one = IsSame_sym (subst (λ x. IsSame S.modulus (expansion N (one_at j)) ((x, 1) ∷ [])) (sym key)
              (expansion_one N (one_at j) j lt (IsCongruent_of S.modulus _ 1 (one_at_same j)) (λ i il ne. IsCongruent_of S.modulus _ 0 (one_at_other j i ne))))

          apart : IsSame S.modulus v (w ++ scale c (unit n) ((k, 1) ∷ []))
          apart = record {
            by_key = λ l.
                let i = indicator l k in
                let x = coefficient v l in
                let s : coefficient (scale c (unit n) ((k, 1) ∷ [])) l ≡ c * (1 * i + 0) = coefficient-scale_unit c ((k, 1) ∷ []) l in
                IsCongruent_trans (IsCongruent_of S.modulus x (x + 0) (omega arith))
                (IsCongruent_trans (IsCongruent_add (IsCongruent_refl S.modulus x) (IsCongruent_sym (IsCongruent_minus S.modulus (c * i) (positive S lawful))))
                (IsCongruent_of S.modulus (x + (c * i + (S.modulus - 1) * (c * i))) _
                (sym (coefficient-append w (scale c (unit n) ((k, 1) ∷ [])) l ∙ (let a = at l in rw (a, s) (omega arith))))));
          }

          agree : (i : ℕ) → i < length N → IsNotBelow k (0, get_or N i (unit n)) → (i ≡ j) ⊎ (i ≡ j → ⊥)
              → IsCongruent S.modulus (h.residues i + c * one_at j i) (coefficient v (0, get_or N i (unit n)))
          agree i il not_below (inl d) =
              subst (λ x. IsCongruent S.modulus (h.residues x + c * one_at j x) (coefficient v (0, get_or N x (unit n)))) (sym d)
              (let z = IsCongruent_trans (h.agrees j lt (subst (λ x. IsNotBelow k (0, get_or N x (unit n))) d not_below)) (vanish (0, get_or N j (unit n)) (subst (λ x. IsNotBelow k (0, get_or N x (unit n))) d not_below)) in
              IsCongruent_trans (IsCongruent_add z (IsCongruent_of S.modulus (c * one_at j j) (c * 1) (ap (λ x. c * x) (one_at_same j))))
              (IsCongruent_of S.modulus (0 + c * 1) _ (omega arith ∙ ap (coefficient v) key)))
          agree i il not_below (inr ne) =
              let z = IsCongruent_trans (h.agrees i il not_below) (vanish (0, get_or N i (unit n)) not_below) in
              IsCongruent_trans (IsCongruent_add z (IsCongruent_of S.modulus (c * one_at j i) (c * 0) (ap (λ x. c * x) (one_at_other j i ne))))
              (IsCongruent_trans (IsCongruent_of S.modulus (0 + c * 0) 0 (omega arith)) (IsCongruent_sym (higher (split k (0, get_or N i (unit n)) not_below))))
            where
              twice : (i < j) ⊎ (j ≤ i) → get_or N i (unit n) ≡ get_or N j (unit n) → ⊥
              twice (inl ij) q = change.distinct i j ij lt q
              twice (inr ji) q = let strict : j < i = elim (cases_lt j i) [
                | inl a ↦ a
                | inr b ↦ absurd (ne (omega arith))
              ] in change.distinct j i strict il (sym q)

              higher : ((0, get_or N i (unit n)) ≡ k) ⊎ (S.compare k (0, get_or N i (unit n)) ≡ Less) → IsCongruent S.modulus (coefficient v (0, get_or N i (unit n))) 0
              higher (inl q) = absurd (twice (cases_lt i j) (ap (λ x. x.1) (q ∙ key)))
              higher (inr d) = above (0, get_or N i (unit n)) d

  -- k has a lead for a divisor: a multiple of the member is taken off
  rest_covered : (k : Key n) → ((y : Key n) → IsDown S y k → Rests y) → k.0 ≡ 0 → IsCovered S G k → Rests k
  rest_covered k ih zero (i, lt, lead, (m, e)) v r above = finish (rest_below k ih w rw_ vanish)
    where
      w : FormalSum n
      w = remainder_step S lawful G list v k i m

      g : FormalSum n
      g = scale ((S.modulus - 1) * coefficient v k) m (get_or G i [])

      member : IsMember S.modulus F g
      member = IsMember_scale (positive S lawful) F ((S.modulus - 1) * coefficient v k) m (get_or G i []) (change.members i lt)

      rw_ : IsOfRank S.modulus 1 w
      rw_ = IsOfRank_append v g r (IsOfRank_member 1 F of_rank g member)

      vanish : VanishesFrom k w
      vanish l h = by (split k l h)
        where
          by : (l ≡ k) ⊎ (S.compare k l ≡ Less) → IsCongruent S.modulus (coefficient w l) 0
          by (inl d) = subst (λ x. IsCongruent S.modulus (coefficient w x) 0) (sym d) (remainder_step_at S lawful G list v k i m lt e)
          by (inr d) =
              let u : Term n = ((i, m), (S.modulus - 1) * coefficient v k) in
              let over : IsCongruent S.modulus (coefficient g l) 0 = multiple_above S lawful G list u l lt (subst (λ x. S.compare x l ≡ Less) (sym e) d) in
              IsCongruent_trans (IsCongruent_of S.modulus _ _ (coefficient-append v g l))
              (IsCongruent_trans (IsCongruent_add (above l d) over) (IsCongruent_of S.modulus (0 + 0) 0 (omega arith)))

      finish : HasRest k w → HasRest k v
      finish h = record {
        residues = h.residues;
        same = modulo_trans F (record {
          left = g;
          right = [];
          left_member = member;
          right_member = IsMember_zero S.modulus F;
          sums = IsSame_of S.modulus (v ++ g) (w ++ []) (sym (append-nil w));
        }) h.same;
        agrees = λ j jl not_below. IsCongruent_trans (IsCongruent_trans (h.agrees j jl not_below) (vanish (0, get_or N j (unit n)) not_below)) (IsCongruent_sym (higher j jl (split k (0, get_or N j (unit n)) not_below)));
      }
        where
          higher : (j : ℕ) → j < length N → ((0, get_or N j (unit n)) ≡ k) ⊎ (S.compare k (0, get_or N j (unit n)) ≡ Less) → IsCongruent S.modulus (coefficient v (0, get_or N j (unit n))) 0
          higher j jl (inl q) = absurd (change.uncovered (get_or N j (unit n)) (j, jl, refl) (subst (IsCovered S G) (sym q) (i, lt, lead, (m, e))))
          higher j jl (inr d) = above (0, get_or N j (unit n)) d

  rest_step : (k : Key n) → ((y : Key n) → IsDown S y k → Rests y) → Rests k
  rest_step k ih v r above = go (cases_lt k.0 1)
    where
      go : (k.0 < 1) ⊎ (1 ≤ k.0) → HasRest k v
      go (inr le) = rest_below k ih v r vanish
        where
          vanish : VanishesFrom k v
          vanish l h = by (split k l h)
            where
              by : (l ≡ k) ⊎ (S.compare k l ≡ Less) → IsCongruent S.modulus (coefficient v l) 0
              by (inl d) = subst (λ x. IsCongruent S.modulus (coefficient v x) 0) (sym d) (r.past k le)
              by (inr d) = above l d
      go (inl lt) = by (sorted_out k.1)
        where
          zero : k.0 ≡ 0
          zero = omega arith

          by : Has N k.1 ⊎ IsCovered S G (0, k.1) → HasRest k v
          by (inl h) = rest_one k ih zero h v r above
          by (inr h) = rest_covered k ih zero (subst (λ x. IsCovered S G (x, k.1)) (sym zero) h) v r above

  rests : (k : Key n) → IsAccessible (IsDown S) k → Rests k
  rests k (accessible k' down) = rest_step k' (λ y d. rests y (down y d))

  covers : (v : FormalSum n) (k : Key n) → IsMember S.modulus F v → IsLead S v k → IsCovered S G k
  covers v k member lead = go (cases_lt k.0 1)
    where
      r : IsOfRank S.modulus 1 v
      r = IsOfRank_member 1 F of_rank v member

      go : (k.0 < 1) ⊎ (1 ≤ k.0) → IsCovered S G k
      go (inr le) = absurd (lead.nonzero (r.past k le))
      go (inl lt) = by (sorted_out k.1)
        where
          zero : k.0 ≡ 0
          zero = omega arith

          by : Has N k.1 ⊎ IsCovered S G (0, k.1) → IsCovered S G k
          by (inr h) = subst (λ x. IsCovered S G (x, k.1)) (sym zero) h
          by (inl (j, jl, e)) =
              let key : (0, get_or N j (unit n)) ≡ k = ap (λ x. (0, x)) e ∙ ap (λ x. (x, k.1)) (sym zero) in
              let h = rests k (lawful.order.well_founded k) v r lead.above in
              let none : IsCongruent S.modulus (h.residues j) 0 = change.independent h.residues (modulo_member F (positive S lawful) h.same member) j jl in
              let some : IsCongruent S.modulus (h.residues j) (coefficient v (0, get_or N j (unit n))) = h.agrees j jl (λ d. not_itself lawful.order k (subst (λ x. S.compare x k ≡ Less) key d)) in
              absurd (lead.nonzero (subst (λ x. IsCongruent S.modulus (coefficient v x) 0) key (IsCongruent_trans (IsCongruent_sym some) none)))

  pub change_reduced : IsReducedSet S F G
  change_reduced = record {
    basis = record { members = change.members; covers = covers };
    normal = change.normal;
    monic = change.monic;
    apart = λ i j k il jl ne divides. separate i j k il jl ne divides (IsCongruent_decide S.modulus (coefficient (get_or G i []) k));
  }
    where
      separate :
          (i j : ℕ) (k : Key n)
          → i < length G → j < length G → (i ≡ j → ⊥) → KeyDivides (leads G j) k
          → IsCongruent S.modulus (coefficient (get_or G i []) k) 0 ⊎ (IsCongruent S.modulus (coefficient (get_or G i []) k) 0 → ⊥)
          → IsCongruent S.modulus (coefficient (get_or G i []) k) 0
      separate i j k il jl ne divides (inl z) = z
      separate i j k il jl ne divides (inr nz) = by (change.tails i k il nz)
        where
          by : (k ≡ leads G i) ⊎ ((k.0 ≡ 0) × Has N k.1) → IsCongruent S.modulus (coefficient (get_or G i []) k) 0
          by (inl e) = absurd (change.apart i j il jl ne (subst (KeyDivides (leads G j)) e divides))
          by (inr (z, h)) = absurd (change.uncovered k.1 h (j, jl, IsLead_of_monic S lawful (change.monic j jl), subst (λ x. KeyDivides (leads G j) (x, k.1)) z divides))
