-- New pairs that join the queue, one after another
use Rattle.std.proofs.Common.{Bool, List, [], ap, append-nil, append_assoc, arith, cond, eq-eqb, false, inl, inr, ne_eqb, refl, subst, sym, true, ℕ, ◌&&◌, ◌++◌, ◌+◌, ◌<◌, ◌∙◌, ◌∷◌, ◌≡◌, ◌≤◌, ◌⊎◌}
use Rattle.std.proofs.lemmas.Bool.{cases_lt}
use Rattle.std.proofs.lemmas.List.{map-append}
use Rattle.std.proofs.lemmas.List.Elements.{Contains-append_left, Contains-append_right}
use Rattle.formal_sums.proofs.WeightedSums.{Each_append}
use Rattle.formal_sums.specs.FormalSums.{Each, FormalSum}
use Rattle.bases.specs.Settings.{Setting}
use Rattle.basis_steps.proofs.Counting.{count-append, count_each, is_same_pair-refl, is_same_pair-true}
use Rattle.basis_steps.specs.Criteria.{IsPair}
use Rattle.basis_steps.specs.Pairs.{Drop, Pair, count, is_same_pair, pairs_dropped}
use Rattle.basis_steps.specs.Updates.{BecomesNew, IsFirstLive, IsFirstSpared, IsNewDrop, Remains}
use Rattle.pair_criteria.specs.declared.pair.Pair.{Pair as CodePair}
use Rattle.pair_updates.proofs.PairLists.{reals_of}
use Rattle.pair_updates.proofs.Leading.{pairs_real}
use Rattle.pair_updates.proofs.SameLeads.{each_counted}
use Rattle.pair_updates.specs.Dropping.{drops_of}
use Rattle.pair_updates.specs.Leads.{LeadsShown, setting_of_leads, sums_shown}
use Rattle.pair_updates.specs.Pairs.{HasLcm, IsRealPair, pairs_of, AreIndices}
use Rattle.pair_updates.specs.Queueing.{are_together}
use Rattle.pair_updates.specs.Updating.{IsDropBefore, Joining}
use Rattle.pair_updates.specs.declared.dropped.Dropped.{Dropped}

-- a pair with a later member stands in no list of earlier ones
pub none_later : (h : ℕ) (x : Pair) (xs : List Pair) → Each (AreIndices h) xs → h ≤ x.1 → count x xs ≡ 0
none_later h x xs within l = go (cases_lt 0 (count x xs))
  where
    go : (0 < count x xs) ⊎ (count x xs ≤ 0) → count x xs ≡ 0
    go (inl p) = let q = count_each (AreIndices h) x xs within p in absurd (omega (arith, q.1, l))
    go (inr p) = omega (arith, p)

-- the pair of i with h is another than that of k
other_pair : (h i k : ℕ) → (i ≡ k → ⊥) → is_same_pair (i, h) (k, h) ≡ false
other_pair h i k ne = rw (ne_eqb i k ne) refl

counts_one : (x y : Pair) → ◌≡◌ {A = ℕ} (count x (y ∷ [])) (cond (is_same_pair x y) 1 0)
counts_one x y = omega arith

and_true : (b : Bool) → (b && true) ≡ b
and_true true = refl
and_true false = refl

-- a pair of one position is pushed
pub pushed_count :
    (m : LeadsShown) (k h : ℕ) (queued new : List CodePair) → IsPair (sums_shown m) (k, h)
    → ((x : Pair) → count x (pairs_of new) ≡ count x (pairs_of queued) + cond (is_same_pair x (k, h) && are_together (sums_shown m) k h) 1 0)
    → (x : Pair) → count x (pairs_of new) ≡ count x (pairs_of queued) + cond (is_same_pair x (k, h)) 1 0
pushed_count m k h queued new p same x =
    let t : are_together (sums_shown m) k h ≡ true = eq-eqb _ _ p.position in
    let e : ◌≡◌ {A = ℕ} (cond (is_same_pair x (k, h) && are_together (sums_shown m) k h) 1 0) (cond (is_same_pair x (k, h)) 1 0) =
    ap (λ y. cond y 1 0) (ap (λ y. is_same_pair x (k, h) && y) t ∙ and_true (is_same_pair x (k, h))) in
    omega (arith, same x, e)

pub pushed_real :
    (m : LeadsShown) (k h : ℕ) (queued new : List CodePair) → IsPair (sums_shown m) (k, h)
    → ((x : Pair) → count x (pairs_of new) ≡ count x (pairs_of queued) + cond (is_same_pair x (k, h)) 1 0)
    → Each (IsRealPair m) queued → Each (HasLcm m) new → Each (IsRealPair m) new
pushed_real m k h queued new p same real lcms =
    reals_of m new (each_counted (IsPair (sums_shown m)) (pairs_of new) (λ x l. go x (is_same_pair x (k, h)) refl l)) lcms
  where
    go : (x : Pair) (b : Bool) → is_same_pair x (k, h) ≡ b → 0 < count x (pairs_of new) → IsPair (sums_shown m) x
    go x true e l = subst (IsPair (sums_shown m)) (sym (is_same_pair-true x (k, h) e)) p
    go x false e l =
        let none : ◌≡◌ {A = ℕ} (cond (is_same_pair x (k, h)) 1 0) 0 = ap (λ b. cond b 1 0) e in
        count_each (IsPair (sums_shown m)) x (pairs_of queued) (pairs_real m queued real) (omega (arith, l, same x, none))

module _ (m : LeadsShown) (h : ℕ) (start : List Pair) (drops : List Drop) (within : Each (AreIndices h) start) where
  abbrev n : ℕ
  n = m.variables

  abbrev S : Setting n
  S = setting_of_leads n m

  abbrev G : List (FormalSum n)
  G = sums_shown m

  -- at the beginning none has joined
  pub none_joined : (queued : List CodePair) → pairs_of queued ≡ start → Each (IsRealPair m) queued → Joining m h 0 start drops queued drops
  none_joined queued is real = record {
    added = [];
    appended = sym (append-nil drops);
    by_rule = tt;
    real = real;
    new_pairs = λ i l p. absurd (omega (arith, l));
    others = λ x away. ap (count x) is;
    few = λ x. omega (arith, ap (count x) is);
    once = λ x. omega arith;
    no_others = λ x l. inl (omega (arith, l, ap (count x) is));
  }

  module _ (k : ℕ) (earlier : k < h) (queued : List CodePair) (later : List Drop) (j : Joining m h k start drops queued later) where
    -- what became of an earlier new pair still did as more is dropped
    still :
        (more : List Drop) (after : ℕ) (i : ℕ) → after ≡ count (i, h) (pairs_of queued)
        → BecomesNew S G h j.added (count (i, h) (pairs_of queued)) i → BecomesNew S G h (j.added ++ more) after i
    still more after i e (inl (c, d, there, none)) = inl (c, d, Contains-append_left j.added more ((i, h), c) there, e ∙ none)
    still more after i e (inr (remains, inl (spared, none))) = inr (remains, inl (spared, e ∙ none))
    still more after i e (inr (remains, inr (live, one))) = inr (remains, inr (live, e ∙ one))

    before_more : (ds : List Drop) → Each (IsDropBefore m h k) ds → Each (IsDropBefore m h (k + 1)) ds
    before_more [] q = tt
    before_more (d ∷ ds) ((i, l, e, p, by), q) = ((i, omega (arith, l), e, p, by), before_more ds q)

    -- the pair of k had not joined
    not_yet : (i : ℕ) → k ≤ i → count (i, h) (pairs_of queued) ≡ 0
    not_yet i l = j.others (i, h) (λ q. let r = q.1 in omega (arith, r, l)) ∙ none_later h (i, h) start within (omega arith)

    -- nor was it dropped
    not_dropped : (ds : List Drop) → Each (IsDropBefore m h k) ds → (i : ℕ) → k ≤ i → count (i, h) (pairs_dropped ds) ≡ 0
    not_dropped [] q i l = refl
    not_dropped (d ∷ ds) ((a, lt, e, p, by), q) i l =
        let ne : i ≡ a → ⊥ = λ f. omega (arith, f, lt, l) in
        let z : ◌≡◌ {A = ℕ} (cond (is_same_pair (i, h) d.0) 1 0) 0 =
        ap (λ y. cond (is_same_pair (i, h) y) 1 0) e ∙ ap (λ b. cond b 1 0) (other_pair h i a ne) in
        omega (arith, z, not_dropped ds q i l)

    -- the next one that is not queued
    nothing_joins :
        (more : List Drop) → Each (IsDropBefore m h (k + 1)) more
        → ((x : Pair) → count x (pairs_dropped j.added) + count x (pairs_dropped more) ≤ 1)
        → (IsPair G (k, h) → BecomesNew S G h (j.added ++ more) (count (k, h) (pairs_of queued)) k)
        → Joining m h (k + 1) start drops queued (later ++ more)
    nothing_joins more by once fate = record {
      added = j.added ++ more;
      appended = ap (λ l. l ++ more) j.appended ∙ append_assoc drops j.added more;
      by_rule = Each_append (IsDropBefore m h (k + 1)) j.added more (before_more j.added j.by_rule) by;
      real = j.real;
      new_pairs = λ i l p. go i (cases_lt i k) l p;
      others = λ x away. j.others x (λ q. let r = q.1 in away (q.0, omega (arith, r)));
      few = j.few;
      once = λ x. omega (arith, once x, count-append x (pairs_dropped j.added) (pairs_dropped more), ap (count x) (map-append (λ (d : Drop). d.0) j.added more));
      no_others = j.no_others;
    }
      where
        go : (i : ℕ) → (i < k) ⊎ (k ≤ i) → i < k + 1 → IsPair G (i, h) → BecomesNew S G h (j.added ++ more) (count (i, h) (pairs_of queued)) i
        go i (inl l) q p = still more (count (i, h) (pairs_of queued)) i refl (j.new_pairs i l p)
        go i (inr l) q p =
            let e : k ≡ i = omega (arith, l, q) in
            subst (λ z. BecomesNew S G h (j.added ++ more) (count (z, h) (pairs_of queued)) z) e
            (fate (subst (λ z. IsPair G (z, h)) (sym e) p))

    same_later : later ++ [] ≡ later
    same_later = append-nil later

    pub apart_joins : (IsPair G (k, h) → ⊥) → Joining m h (k + 1) start drops queued later
    apart_joins not = subst (λ l. Joining m h (k + 1) start drops queued l) same_later
        (nothing_joins [] tt (λ x. omega (arith, j.once x)) (λ p. absurd (not p)))

    pub spared_joins : Remains G h k → IsFirstSpared S G h k k → Joining m h (k + 1) start drops queued later
    spared_joins remains spared = subst (λ l. Joining m h (k + 1) start drops queued l) same_later
        (nothing_joins [] tt (λ x. omega (arith, j.once x)) (λ p. inr (remains, inl (spared, not_yet k (omega arith)))))

    pub dropped_joins : (c : ℕ) → IsPair G (k, h) → IsNewDrop S G h k c → Joining m h (k + 1) start drops queued (later ++ (((k, h), c) ∷ []))
    dropped_joins c p by =
        nothing_joins (((k, h), c) ∷ []) ((k, omega arith, refl, p, by), tt) once
        (λ q. inl (c, by, Contains-append_right j.added (((k, h), c) ∷ []) ((k, h), c) (0, omega arith, refl), not_yet k (omega arith)))
      where
        once : (x : Pair) → count x (pairs_dropped j.added) + count x ((k, h) ∷ []) ≤ 1
        once x = go (is_same_pair x (k, h)) refl
          where
            go : (b : Bool) → is_same_pair x (k, h) ≡ b → count x (pairs_dropped j.added) + count x ((k, h) ∷ []) ≤ 1
            go true e =
                let is : x ≡ (k, h) = is_same_pair-true x (k, h) e in
                let z : count x (pairs_dropped j.added) ≡ 0 = ap (λ y. count y (pairs_dropped j.added)) is ∙ not_dropped j.added j.by_rule k (omega arith) in
                let one : ◌≡◌ {A = ℕ} (cond (is_same_pair x (k, h)) 1 0) 1 = ap (λ b. cond b 1 0) e in
                omega (arith, z, one)
            go false e =
                let none : ◌≡◌ {A = ℕ} (cond (is_same_pair x (k, h)) 1 0) 0 = ap (λ b. cond b 1 0) e in
                omega (arith, none, j.once x)

    -- the next one is queued
    pub queued_joins :
        (new : List CodePair) → Each (IsRealPair m) new → IsPair G (k, h) → Remains G h k → IsFirstLive S G h k k
        → ((x : Pair) → count x (pairs_of new) ≡ count x (pairs_of queued) + cond (is_same_pair x (k, h)) 1 0)
        → Joining m h (k + 1) start drops new later
    queued_joins new real pair remains live same = record {
      added = j.added;
      appended = j.appended;
      by_rule = before_more j.added j.by_rule;
      real = real;
      new_pairs = λ i l p. at i (cases_lt i k) l p;
      others = λ x away. others x away (is_same_pair x (k, h)) refl;
      few = λ x. few x (is_same_pair x (k, h)) refl;
      once = j.once;
      no_others = λ x l. no_others x l (is_same_pair x (k, h)) refl;
    }
      where
        one : (x : Pair) → is_same_pair x (k, h) ≡ true → ◌≡◌ {A = ℕ} (cond (is_same_pair x (k, h)) 1 0) 1
        one x e = ap (λ b. cond b 1 0) e

        none : (x : Pair) → is_same_pair x (k, h) ≡ false → ◌≡◌ {A = ℕ} (cond (is_same_pair x (k, h)) 1 0) 0
        none x e = ap (λ b. cond b 1 0) e

        at : (i : ℕ) → (i < k) ⊎ (k ≤ i) → i < k + 1 → IsPair G (i, h) → BecomesNew S G h j.added (count (i, h) (pairs_of new)) i
        at i (inl l) q p =
            let z = none (i, h) (other_pair h i k (λ e. omega (arith, e, l))) in
            subst (λ ds. BecomesNew S G h ds (count (i, h) (pairs_of new)) i) (append-nil j.added)
            (still [] (count (i, h) (pairs_of new)) i (omega (arith, same (i, h), z)) (j.new_pairs i l p))
        at i (inr l) q p =
            let e : k ≡ i = omega (arith, l, q) in
            let z = one (k, h) (is_same_pair-refl (k, h)) in
            subst (λ y. BecomesNew S G h j.added (count (y, h) (pairs_of new)) y) e
            (inr (remains, inr (live, omega (arith, same (k, h), z, not_yet k (omega arith)))))

        others : (x : Pair) → ((x.1 ≡ h) × (x.0 < k + 1) → ⊥) → (b : Bool) → is_same_pair x (k, h) ≡ b → count x (pairs_of new) ≡ count x start
        others x away true e =
            let is : x ≡ (k, h) = is_same_pair-true x (k, h) e in
            absurd (away (ap (λ (p : Pair). p.1) is, let f = ap (λ (p : Pair). p.0) is in omega (arith, f)))
        others x away false e = omega (arith, same x, none x e, j.others x (λ q. let r = q.1 in away (q.0, omega (arith, r))))

        few : (x : Pair) (b : Bool) → is_same_pair x (k, h) ≡ b → count x (pairs_of new) ≤ count x start + 1
        few x true e =
            let is : x ≡ (k, h) = is_same_pair-true x (k, h) e in
            let z : count x (pairs_of queued) ≡ 0 = ap (λ y. count y (pairs_of queued)) is ∙ not_yet k (omega arith) in
            omega (arith, same x, one x e, z)
        few x false e = omega (arith, same x, none x e, j.few x)

        no_others : (x : Pair) → 0 < count x (pairs_of new) → (b : Bool) → is_same_pair x (k, h) ≡ b → (0 < count x start) ⊎ ((x.1 ≡ h) × IsPair G x)
        no_others x l true e =
            let is : x ≡ (k, h) = is_same_pair-true x (k, h) e in
            inr (ap (λ (p : Pair). p.1) is, subst (IsPair G) (sym is) pair)
        no_others x l false e = j.no_others x (omega (arith, l, same x, none x e))

-- one more is dropped
pub one_more : (ds es : List Dropped) (d : Dropped) → es ≡ ds ++ (d ∷ []) → drops_of ds ++ (((d.i, d.j), d.k) ∷ []) ≡ drops_of es
one_more ds es d e = sym (ap drops_of e ∙ map-append (λ (d : Dropped). ((d.i, d.j), d.k)) ds (d ∷ []))
