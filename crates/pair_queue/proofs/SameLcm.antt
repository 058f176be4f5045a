-- The pairs that stand before those of one lcm
use Rattle.std.proofs.Common.{Bool, Equal, Greater, Less, List, [], ap, arith, drop, get_or, inl, inr, length, refl, subst, suc, sym, take, zero, ℕ}
use Rattle.std.proofs.Common.{◌++◌, ◌+◌, ◌-◌, ◌<◌, ◌∙◌, ◌∷◌, ◌≡◌, ◌≤◌, ◌⊎◌}
use Rattle.std.specs.Cmp.{IsTotalOrder}
use Rattle.std.specs.Ordering.{nat_cmp, ordering_reverse, ordering_then}
use Rattle.std.proofs.lemmas.List.{drop_more}
use Rattle.formal_sums.specs.FormalSums.{Each, FormalSum, Key}
use Rattle.monomials.proofs.Monomials.{lcm_divides, times-quotient, times-quotient_right, times-unit}
use Rattle.monomials.proofs.Weighing.{weighted_degree-times, weighted_degree_zero}
use Rattle.monomials.specs.Exponents.{Divides, Exponents, exponents_of, lcm, quotient, times}
use Rattle.monomials.specs.Weights.{weighted_degree}
use Rattle.orders.proofs.Lexicographic.{nat_cmp-less, then_less}
use Rattle.bases.specs.Leads.{leads}
use Rattle.term_lists.proofs.Scaling.{Each_at}
use Rattle.term_lists.proofs.Parts.{Each_take}
use Rattle.monomial_orders.proofs.Over.{weighed_exact}
use Rattle.monomial_orders.specs.Laws.{key_comparison_order}
use Rattle.pair_criteria.specs.declared.pair.Pair.{Pair as CodePair}
use Rattle.bases.specs.Settings.{Setting}
use Rattle.basis_steps.specs.Criteria.{CriterionApplies, IsPair, lcm_of}
use Rattle.basis_steps.specs.Pairs.{Pair}
use Rattle.basis_steps.specs.Queues.{IsSorted, compare_pairs, degree_of}
use Rattle.pair_updates.proofs.LeastDegree.{no_less}
use Rattle.pair_updates.proofs.PairLists.{pairs_length}
use Rattle.pair_queue.proofs.Sparing.{chain_by}
use Rattle.pair_updates.proofs.Leading.{pairs_real}
use Rattle.pair_updates.specs.Pairs.{IsRealPair, index_pair_of, pairs_of}
use Rattle.pair_updates.specs.Leads.{LeadsShown, setting_of_leads, sums_shown}
use Rattle.pair_queue.specs.Skipping.{NoneIsSpared}
use Rattle.pair_queue.specs.Tables.{flag_cleared, flagged}

-- a divisor of the same degree is the same
pub same_divisor : {n : ℕ} (ws : List ℕ) (v w : Exponents n) → Divides v w → weighted_degree ws w ≤ weighted_degree ws v → v ≡ w
same_divisor ws v w (m, e) l =
    let sum : weighted_degree ws (times m v) ≡ weighted_degree ws m + weighted_degree ws v = weighted_degree-times ws m v in
    let none : weighted_degree ws m ≡ 0 = omega (arith, sum, ap (weighted_degree ws) e, l) in
    sym (times-unit v) ∙ ap (λ z. times z v) (sym (weighted_degree_zero ws m none)) ∙ e

module _ {n : ℕ} (S : Setting n) (G : List (FormalSum n)) (total : IsTotalOrder S.compare) (exact : (k l : Key n) → S.compare k l ≡ Equal → k ≡ l) where
  abbrev monomial : Pair → Key n
  monomial x = (0, (lcm_of G x).1)

  -- where the degree is the same, the monomials stand in their order
  not_above : (x y : Pair) → compare_pairs S G x y ≡ Less → degree_of S G x ≡ degree_of S G y
      → (S.compare (monomial x) (monomial y) ≡ Less) ⊎ (S.compare (monomial x) (monomial y) ≡ Equal)
  not_above x y h d = first (then_less (nat_cmp (degree_of S G x) (degree_of S G y))
      (ordering_then (S.compare (monomial x) (monomial y)) (ordering_then (nat_cmp x.1 y.1) (nat_cmp x.0 y.0))) h)
    where
      second : (S.compare (monomial x) (monomial y) ≡ Less) ⊎ ((S.compare (monomial x) (monomial y) ≡ Equal) × (ordering_then (nat_cmp x.1 y.1)
          (nat_cmp x.0 y.0) ≡ Less)) → (S.compare (monomial x) (monomial y) ≡ Less) ⊎ (S.compare (monomial x) (monomial y) ≡ Equal)
      second (inl e) = inl e
      second (inr e) = inr e.0

      first : (nat_cmp (degree_of S G x) (degree_of S G y) ≡ Less) ⊎ ((nat_cmp (degree_of S G x) (degree_of S G y) ≡ Equal) × (ordering_then
          (S.compare (monomial x) (monomial y)) (ordering_then (nat_cmp x.1 y.1) (nat_cmp x.0 y.0)) ≡ Less))
          → (S.compare (monomial x) (monomial y) ≡ Less) ⊎ (S.compare (monomial x) (monomial y) ≡ Equal)
      first (inl e) = absurd (let l = nat_cmp-less (degree_of S G x) (degree_of S G y) e in omega (arith, l, d))
      first (inr e) = second (then_less (S.compare (monomial x) (monomial y)) (ordering_then (nat_cmp x.1 y.1) (nat_cmp x.0 y.0)) e.1)

  -- a pair between two of one lcm has this lcm
  between : (y z x : Pair) → compare_pairs S G y z ≡ Less → compare_pairs S G z x ≡ Less → (lcm_of G x).1 ≡ (lcm_of G y).1 → (lcm_of G x).1 ≡ (lcm_of G z).1
  between y z x l h e = go (not_above y z l (omega (arith, low, high, same))) (not_above z x h (omega (arith, low, high, same)))
    where
      low : degree_of S G y ≤ degree_of S G z
      low = no_less S G y z l

      high : degree_of S G z ≤ degree_of S G x
      high = no_less S G z x h

      same : degree_of S G x ≡ degree_of S G y
      same = ap (λ (v : Exponents n). weighted_degree S.weights v) e

      first : monomial x ≡ monomial y
      first = ap (λ (v : Exponents n). (0, v)) e

      go : (S.compare (monomial y) (monomial z) ≡ Less) ⊎ (S.compare (monomial y) (monomial z) ≡ Equal)
          → (S.compare (monomial z) (monomial x) ≡ Less) ⊎ (S.compare (monomial z) (monomial x) ≡ Equal) → (lcm_of G x).1 ≡ (lcm_of G z).1
      go a (inr q) = ap (λ (k : Key n). k.1) (sym (exact (monomial z) (monomial x) q))
      go (inr p) (inl q) = e ∙ ap (λ (k : Key n). k.1) (exact (monomial y) (monomial z) p)
      go (inl p) (inl q) =
          let back : S.compare (monomial y) (monomial z) ≡ Greater = total.antisymm (monomial y) (monomial z)
          ∙ ap ordering_reverse (ap (λ (k : Key n). S.compare (monomial z) k) (sym first) ∙ q) in
          absurd (less_greater (sym p ∙ back))
        where
          less_greater : Less ≡ Greater → ⊥
          less_greater r = cc

  module _ (before : Pair → Bool) (x : Pair) (rest : List Pair) (pair : IsPair G x) where
    -- the leads of x divide the lcm of a pair to which a criterion applies now alone
    lcm_divided : (y : Pair) → IsPair G y → (CriterionApplies S G (flagged before) y → ⊥) → CriterionApplies S G (flagged (flag_cleared before x)) y
        → Divides (lcm_of G x).1 (lcm_of G y).1
    lcm_divided y real not (inl p) = absurd (not (inl p))
    lcm_divided y real not (inr (k, c)) =
        go (chain_by S G before x y k (λ b. not (inr (k, b))) c)
      where
        Part : ℕ → Type 0
        Part i = Divides (leads G i).1 (lcm_of G y).1

        left : Part y.0
        left = (quotient (lcm (leads G y.0).1 (leads G y.1).1) (leads G y.0).1, times-quotient (leads G y.0).1 (leads G y.1).1)

        right : Part y.1
        right = (quotient (lcm (leads G y.0).1 (leads G y.1).1) (leads G y.1).1, times-quotient_right (leads G y.0).1 (leads G y.1).1)

        third : Part k
        third = (c.divides.0, ap (λ (z : Key n). z.1) c.divides.1)

        join : Part x.0 → Part x.1 → Divides (lcm_of G x).1 (lcm_of G y).1
        join a b = lcm_divides (leads G x.0).1 (leads G x.1).1 (lcm_of G y).1 a b

        go : ((k ≡ x.1) × ((y.0 ≡ x.0) ⊎ (y.1 ≡ x.0))) ⊎ ((k ≡ x.0) × ((y.0 ≡ x.1) ⊎ (y.1 ≡ x.1))) → Divides (lcm_of G x).1 (lcm_of G y).1
        go (inl (e, inl f)) = join (subst Part f left) (subst Part e third)
        go (inl (e, inr f)) = join (subst Part f right) (subst Part e third)
        go (inr (e, inl f)) = join (subst Part e third) (subst Part f left)
        go (inr (e, inr f)) = join (subst Part e third) (subst Part f right)

    -- so it has the lcm of x, where it stands before x
    same_lcm : (y : Pair) → IsPair G y → compare_pairs S G y x ≡ Less → (CriterionApplies S G (flagged before) y → ⊥)
        → CriterionApplies S G (flagged (flag_cleared before x)) y → (lcm_of G x).1 ≡ (lcm_of G y).1
    same_lcm y real l not now = same_divisor S.weights (lcm_of G x).1 (lcm_of G y).1 (lcm_divided y real not now) (no_less S G y x l)

    each_left : (P : Pair → Type 0) (ys : List Pair) (j : ℕ) (z : Pair) → Each P (ys ++ x ∷ rest) → j < length ys → z ≡ get_or ys j z → P z
    each_left P [] j z h l e = absurd (omega (arith, l))
    each_left P (y ∷ ys) zero z h l e = subst P (sym e) h.0
    each_left P (y ∷ ys) (suc j) z h l e = each_left P ys j z h.1 (omega (arith, l)) e

    each_end : (P : Pair → Type 0) (ys : List Pair) → Each P (ys ++ x ∷ rest) → P x
    each_end P [] h = h.0
    each_end P (y ∷ ys) h = each_end P ys h.1

    before_end : (ys : List Pair) (j : ℕ) (z : Pair) → IsSorted S G (ys ++ x ∷ rest) → j < length ys → z ≡ get_or ys j z → compare_pairs S G z x ≡ Less
    before_end [] j z h l e = absurd (omega (arith, l))
    before_end (y ∷ ys) zero z h l e = subst (λ (w : Pair). compare_pairs S G w x ≡ Less) (sym e) (each_end (λ w. compare_pairs S G y w ≡ Less) ys h.0)
    before_end (y ∷ ys) (suc j) z h l e = before_end ys j z h.1 (omega (arith, l)) e

    -- up to a pair of another lcm no criterion applies
    none_up_to :
        (ys : List Pair) (j : ℕ) (z : Pair)
        → Each (IsPair G) ys → IsSorted S G (ys ++ x ∷ rest) → j < length ys → z ≡ get_or ys j z → ((lcm_of G x).1 ≡ (lcm_of G z).1 → ⊥)
        → Each (λ y. CriterionApplies S G (flagged before) y → ⊥) ys → Each (λ y. CriterionApplies S G (flagged (flag_cleared before x)) y → ⊥) (take (suc j) ys)
    none_up_to [] j z real h l e other not = tt
    none_up_to (y ∷ ys) zero z real h l e other not = (
      (λ now. other (subst (λ (w : Pair). (lcm_of G x).1 ≡ (lcm_of G w).1) (sym e)
          (same_lcm y real.0 (each_end (λ w. compare_pairs S G y w ≡ Less) ys h.0) not.0 now))),
      tt,
    )
    none_up_to (y ∷ ys) (suc j) z real h l e other not = (
      (λ now. other (between y z x (each_left (λ w. compare_pairs S G y w ≡ Less) ys j z h.0 (omega (arith, l)) e) (before_end ys j z h.1 (omega (arith, l)) e)
          (same_lcm y real.0 (each_end (λ w. compare_pairs S G y w ≡ Less) ys h.0) not.0 now))),
      none_up_to ys j z real.1 h.1 (omega (arith, l)) e other not.1,
    )

    pub none_before :
        (ys : List Pair) (k : ℕ)
        → Each (IsPair G) ys → IsSorted S G (ys ++ x ∷ rest) → k ≤ length ys
        → ((z : Pair) (j : ℕ) → k ≡ j + 1 → z ≡ get_or ys j z → (lcm_of G x).1 ≡ (lcm_of G z).1 → ⊥)
        → Each (λ y. CriterionApplies S G (flagged before) y → ⊥) ys → Each (λ y. CriterionApplies S G (flagged (flag_cleared before x)) y → ⊥) (take k ys)
    none_before ys zero real h l other not = tt
    none_before ys (suc j) real h l other not =
        let z : Pair = get_or ys j x in
        let is : z ≡ get_or ys j z = default ys j (omega (arith, l)) in
        none_up_to ys j z real h (omega (arith, l)) is (other z j (omega arith) is) not
      where
        default : (ys : List Pair) (j : ℕ) → j < length ys → get_or ys j x ≡ get_or ys j (get_or ys j x)
        default [] j l = absurd (omega (arith, l))
        default (y ∷ ys) zero l = refl
        default (y ∷ ys) (suc j) l = default ys j (omega (arith, l))

-- ---- the same of queued pairs
pair_at : (xs : List CodePair) (j : ℕ) (w : CodePair) (z : Pair) → j < length xs → w ≡ get_or xs j w → z ≡ get_or (pairs_of xs) j z → z ≡ index_pair_of w
pair_at [] j w z l e f = absurd (omega (arith, l))
pair_at (x ∷ xs) zero w z l e f = f ∙ ap (λ (v : CodePair). index_pair_of v) (sym e)
pair_at (x ∷ xs) (suc j) w z l e f = pair_at xs j w z (omega (arith, l)) e f

one_there : (xs : List CodePair) (j : ℕ) (d : CodePair) → j < length xs → get_or xs j d ≡ get_or xs j (get_or xs j d)
one_there [] j d l = absurd (omega (arith, l))
one_there (x ∷ xs) zero d l = refl
one_there (x ∷ xs) (suc j) d l = one_there xs j d (omega (arith, l))

-- no criterion applies to the kept pairs up to one of another lcm than that of the pair at place `next`, which waits no more
pub none_kept :
    (m : LeadsShown) (q : List CodePair) (kept next count : ℕ) (x : CodePair) (pair : Pair) (f g : Pair → Bool)
    → Each (IsRealPair m) q → next < length q → x ≡ get_or q next x → pairs_of (drop next q) ≡ pair ∷ pairs_of (drop (next + 1) q)
    → IsSorted (setting_of_leads m.variables m) (sums_shown m) (pairs_of (take kept q) ++ pairs_of (drop next q))
    → count ≤ length (take kept q)
    → ((z : CodePair) → 0 < count → z ≡ get_or (take kept q) (count - 1) z → x.lcm.monomial ≡ z.lcm.monomial → ⊥)
    → g ≡ flag_cleared f pair
    → NoneIsSpared m f (pairs_of (take kept q)) → NoneIsSpared m g (take count (pairs_of (take kept q)))
none_kept m q kept next count x pair f g real there is place sorted few other now none =
    let n = m.variables in
    let S = setting_of_leads n m in
    let G = sums_shown m in
    let K : List CodePair = take kept q in
    let order = key_comparison_order m.module_order m.order m.weights n 0 in
    let first : drop next q ≡ x ∷ drop (next + 1) q = drop_more q next x there ∙ ap (λ (z : CodePair). z ∷ drop (next + 1) q) (sym is) in
    let same : pair ≡ index_pair_of x = ap (λ (l : List Pair). get_or l 0 pair) (sym place ∙ ap (λ (l : List CodePair). pairs_of l) first) in
    let x_real : IsRealPair m x = Each_at (IsRealPair m) q next x real there is in
    let reals : Each (IsRealPair m) K = Each_take (IsRealPair m) kept q real in
    let x_pair : IsPair G pair = subst (IsPair G) (sym same) x_real.pair in
    let x_lcm : exponents_of n x.lcm.monomial.exponents ≡ (lcm_of G pair).1 =
    ap (λ (k : Key n). k.1) x_real.lcm.lcm ∙ ap (λ (z : Pair). (lcm_of G z).1) (sym same) in
    let another : (z : Pair) (j : ℕ) → count ≡ j + 1 → z ≡ get_or (pairs_of K) j z → (lcm_of G pair).1 ≡ (lcm_of G z).1 → ⊥ = λ z j e h d.
    let l : j < length K = omega (arith, e, few) in
    let w : CodePair = get_or K j x in
    let w_is : w ≡ get_or K j w = one_there K j x l in
    let w_real : IsRealPair m w = Each_at (IsRealPair m) K j w reals l w_is in
    let z_is : z ≡ index_pair_of w = pair_at K j w z l w_is h in
    let back : j ≡ count - 1 = omega (arith, e) in
    let key : exponents_of n x.lcm.monomial.exponents ≡ exponents_of n w.lcm.monomial.exponents = x_lcm ∙ d ∙ ap (λ (v : Pair). (lcm_of G v).1) z_is
    ∙ sym (ap (λ (k : Key n). k.1) w_real.lcm.lcm) in
    other w (omega (arith, e)) (w_is ∙ ap (λ (k : ℕ). get_or K k w) back)
    (weighed_exact n m.weights x.lcm.monomial w.lcm.monomial x_real.lcm.weighed w_real.lcm.weighed key) in
    subst (λ (r : Pair → Bool). NoneIsSpared m r (take count (pairs_of K))) (sym now)
    (none_before S G order.total order.exact f pair (pairs_of (drop (next + 1) q)) x_pair (pairs_of K) count
    (pairs_real m K reals) (subst (λ (l : List Pair). IsSorted S G (pairs_of K ++ l)) place sorted) (omega (arith, few, pairs_length K)) another none)

-- two that stand at one place
pub same_place : (xs : List CodePair) (i : ℕ) (y x : CodePair) → i < length xs → y ≡ get_or xs i y → x ≡ get_or xs i x → y ≡ x
same_place [] i y x l e f = absurd (omega (arith, l))
same_place (z ∷ xs) zero y x l e f = e ∙ sym f
same_place (z ∷ xs) (suc i) y x l e f = same_place xs i y x (omega (arith, l)) e f
