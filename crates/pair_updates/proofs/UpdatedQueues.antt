-- The update with one member, and with several in turn
use Rattle.std.proofs.Common.{Bool, Contains, List, [], ap, append-nil, append_assoc, arith, cond, false, inl, inr, length, refl, subst, suc, sym, true, zero, ℕ, ◌++◌, ◌+◌, ◌-◌, ◌<◌, ◌∙◌, ◌∷◌, ◌≡◌, ◌≤◌, ◌⊎◌}
use Rattle.std.proofs.lemmas.Bool.{cases_lt}
use Rattle.std.proofs.lemmas.List.{map-append}
use Rattle.std.proofs.lemmas.List.Elements.{Contains-append_left, Contains-append_right}
use Rattle.formal_sums.proofs.WeightedSums.{Each_append}
use Rattle.formal_sums.specs.FormalSums.{Each, FormalSum}
use Rattle.bases.specs.Settings.{Setting}
use Rattle.basis_steps.proofs.Counting.{count-append, count_each, is_same_pair-refl, is_same_pair-true}
use Rattle.basis_steps.specs.Criteria.{IsPair}
use Rattle.basis_steps.specs.Drops.{LeavesFor}
use Rattle.basis_steps.specs.Pairs.{Drop, Pair, count, is_same_pair, pairs_dropped}
use Rattle.basis_steps.specs.Queues.{IsSorted}
use Rattle.basis_steps.specs.Updates.{BecomesNew, BecomesOld, IsDropBy, Updates, UpdatesInTurn, UpdatesWith}
use Rattle.pair_criteria.specs.declared.pair.Pair.{Pair as CodePair}
use Rattle.pair_updates.proofs.PairLists.{reals_of}
use Rattle.pair_updates.proofs.JoiningPairs.{none_later}
use Rattle.pair_updates.proofs.Leading.{leads_length, pairs_real}
use Rattle.pair_updates.proofs.SameLeads.{each_counted}
use Rattle.pair_updates.specs.Leads.{LeadsShown, setting_of_leads, sums_shown}
use Rattle.pair_updates.specs.Pairs.{HasLcm, IsRealPair, pairs_of, AreIndices}
use Rattle.pair_updates.specs.Updating.{HasLeft, IsDropBefore, Joining, Staying, Updating}

-- what holds of each drop and its place among the dropped pairs
each_dropped :
    (P Q : Drop → Type 0) (ds : List Drop) → Each P ds → ((d : Drop) → P d → 0 < count d.0 (pairs_dropped ds) → Q d) → Each Q ds
each_dropped P Q [] h f = tt
each_dropped P Q (d ∷ ds) h f = (
  f d h.0 (stands d (pairs_dropped ds)),
  each_dropped P Q ds h.1 (λ e p l. f e p (omega (arith, l))),
)
  where
    stands : (d : Drop) (xs : List Pair) → 0 < count d.0 (d.0 ∷ xs)
    stands d xs =
        let e : ◌≡◌ {A = ℕ} (cond (is_same_pair d.0 d.0) 1 0) 1 = ap (λ b. cond b 1 0) (is_same_pair-refl d.0) in
        omega (arith, e)

-- a dropped pair stands in the list with the member that it was dropped for, and has left for it
there_left :
    (m : LeadsShown) (h : ℕ) (x : Pair) (ds : List Drop) → Each (HasLeft m h) ds → 0 < count x (pairs_dropped ds)
    → LeavesFor (sums_shown m) h x × Contains ds (x, h)
there_left m h x [] q l = absurd (omega (arith, l))
there_left m h x (d ∷ ds) q l = go (is_same_pair x d.0) refl l (λ p. there_left m h x ds q.1 p)
  where
    go :
        (b : Bool) → is_same_pair x d.0 ≡ b → 0 < cond b 1 0 + count x (pairs_dropped ds)
        → (0 < count x (pairs_dropped ds) → LeavesFor (sums_shown m) h x × Contains ds (x, h))
        → LeavesFor (sums_shown m) h x × Contains (d ∷ ds) (x, h)
    go true e p f =
        let is : x ≡ d.0 = is_same_pair-true x d.0 e in
        let whole : d ≡ (x, h) = λ t. (sym is t, (q.0).1 t) in
        (subst (LeavesFor (sums_shown m) h) (sym is) (q.0).0, (0, omega arith, whole))
    go false e p f =
        let r = f (omega (arith, p)) in
        (r.0, Contains-append_right (d ∷ []) ds (x, h) r.1)

-- a pair that was dropped as new has member h as its later one
dropped_new : (m : LeadsShown) (h k : ℕ) (x : Pair) (ds : List Drop) → Each (IsDropBefore m h k) ds → 0 < count x (pairs_dropped ds) → x.1 ≡ h
dropped_new m h k x [] q l = absurd (omega (arith, l))
dropped_new m h k x (d ∷ ds) ((i, lt, e, p, by), q) l = go (is_same_pair x d.0) refl l (λ r. dropped_new m h k x ds q r)
  where
    go : (b : Bool) → is_same_pair x d.0 ≡ b → 0 < cond b 1 0 + count x (pairs_dropped ds) → (0 < count x (pairs_dropped ds) → x.1 ≡ h) → x.1 ≡ h
    go true f r rest = ap (λ (p : Pair). p.1) (is_same_pair-true x d.0 f ∙ e)
    go false f r rest = rest (omega (arith, r))

module _ (m : LeadsShown) (h : ℕ) (K N : List Pair) (D0 D1 D2 D3 : List Drop) (kept stayed queued : List CodePair)
    (within_kept : Each (AreIndices h) K) (within_queued : Each (AreIndices h) N) (once : (x : Pair) → count x K + count x N ≤ 1)
    (a : Staying m h K D0 kept [] D1) (b : Staying m h N D1 stayed [] D2) (j : Joining m h h (pairs_of stayed) D2 queued D3) where
  abbrev n : ℕ
  n = m.variables

  abbrev S : Setting n
  S = setting_of_leads n m

  abbrev G : List (FormalSum n)
  G = sums_shown m

  abbrev added : List Drop
  added = (a.added ++ b.added) ++ j.added

  abbrev updated : List Pair
  updated = pairs_of kept ++ pairs_of queued

  appended_is : D3 ≡ D0 ++ added
  appended_is =
      j.appended ∙ ap (λ l. l ++ j.added) (b.appended ∙ ap (λ l. l ++ b.added) a.appended ∙ append_assoc D0 a.added b.added)
      ∙ append_assoc D0 (a.added ++ b.added) j.added

  old_count : (x : Pair) → count x (K ++ N) ≡ count x K + count x N
  old_count x = count-append x K N

  new_count : (x : Pair) → count x updated ≡ count x (pairs_of kept) + count x (pairs_of queued)
  new_count x = count-append x (pairs_of kept) (pairs_of queued)

  added_count : (x : Pair) → count x (pairs_dropped added) ≡ count x (pairs_dropped a.added) + (count x (pairs_dropped b.added) + count x (pairs_dropped j.added))
  added_count x = omega (
    arith,
    ap (count x) (map-append (λ (d : Drop). d.0) (a.added ++ b.added) j.added),
    count-append x (pairs_dropped (a.added ++ b.added)) (pairs_dropped j.added),
    ap (count x) (map-append (λ (d : Drop). d.0) a.added b.added),
    count-append x (pairs_dropped a.added) (pairs_dropped b.added),
  )

  kept_same : (x : Pair) → count x (pairs_of kept) + count x (pairs_dropped a.added) ≡ count x K
  kept_same x = omega (arith, a.same x)

  stayed_same : (x : Pair) → count x (pairs_of stayed) + count x (pairs_dropped b.added) ≡ count x N
  stayed_same x = omega (arith, b.same x)

  -- an old pair has an earlier member as its later one
  old_within : (x : Pair) → 0 < count x K + count x N → x.1 < h
  old_within x l = go (cases_lt 0 (count x K))
    where
      go : (0 < count x K) ⊎ (count x K ≤ 0) → x.1 < h
      go (inl p) = (count_each (AreIndices h) x K within_kept p).1
      go (inr p) = (count_each (AreIndices h) x N within_queued (omega (arith, l, p))).1

  -- so no new drop is of it
  old_not_new : (x : Pair) → 0 < count x K + count x N → count x (pairs_dropped j.added) ≡ 0
  old_not_new x l = go (cases_lt 0 (count x (pairs_dropped j.added)))
    where
      go : (0 < count x (pairs_dropped j.added)) ⊎ (count x (pairs_dropped j.added) ≤ 0) → count x (pairs_dropped j.added) ≡ 0
      go (inl p) = let e = dropped_new m h h x j.added j.by_rule p in absurd (omega (arith, e, old_within x l))
      go (inr p) = omega (arith, p)

  -- nor did it join
  old_queued : (x : Pair) → x.1 < h → count x (pairs_of queued) ≡ count x (pairs_of stayed)
  old_queued x l = j.others x (λ q. let e = q.0 in omega (arith, e, l))

  by_rules : Each (IsDropBy S G h (K ++ N)) added
  by_rules =
      Each_append (IsDropBy S G h (K ++ N)) (a.added ++ b.added) j.added
      (Each_append (IsDropBy S G h (K ++ N)) a.added b.added
      (each_dropped (HasLeft m h) (IsDropBy S G h (K ++ N)) a.added a.left
      (λ d p l. inl (omega (arith, l, kept_same d.0, old_count d.0), p.0, p.1)))
      (each_dropped (HasLeft m h) (IsDropBy S G h (K ++ N)) b.added b.left
      (λ d p l. inl (omega (arith, l, stayed_same d.0, old_count d.0), p.0, p.1))))
      (each_dropped (IsDropBefore m h h) (IsDropBy S G h (K ++ N)) j.added j.by_rule
      (λ d p l. inr (p.0, p.2, p.3, p.4)))

  once_dropped : (x : Pair) → count x (pairs_dropped added) ≤ 1
  once_dropped x = go (cases_lt 0 (count x K + count x N))
    where
      go : (0 < count x K + count x N) ⊎ (count x K + count x N ≤ 0) → count x (pairs_dropped added) ≤ 1
      go (inl l) = omega (arith, added_count x, kept_same x, stayed_same x, once x, old_not_new x l)
      go (inr l) = omega (arith, added_count x, kept_same x, stayed_same x, l, j.once x)

  earlier_pair : (x : Pair) → 0 < count x (K ++ N) → BecomesOld G h added (count x (K ++ N)) (count x updated) x
  earlier_pair x some = go (cases_lt 0 (count x (pairs_dropped a.added))) (cases_lt 0 (count x (pairs_dropped b.added)))
    where
      there : 0 < count x K + count x N
      there = omega (arith, some, old_count x)

      none_new : count x (pairs_of queued) ≡ count x (pairs_of stayed)
      none_new = old_queued x (old_within x there)

      -- those that stay do not leave
      live : 0 < count x (pairs_of kept) + count x (pairs_of stayed) → LeavesFor G h x → ⊥
      live l leaves = by (cases_lt 0 (count x (pairs_of kept)))
        where
          by : (0 < count x (pairs_of kept)) ⊎ (count x (pairs_of kept) ≤ 0) → ⊥
          by (inl p) = count_each (λ z. LeavesFor G h z → ⊥) x (pairs_of kept) a.stay p leaves
          by (inr p) = count_each (λ z. LeavesFor G h z → ⊥) x (pairs_of stayed) b.stay (omega (arith, l, p)) leaves

      go :
          (0 < count x (pairs_dropped a.added)) ⊎ (count x (pairs_dropped a.added) ≤ 0)
          → (0 < count x (pairs_dropped b.added)) ⊎ (count x (pairs_dropped b.added) ≤ 0)
          → BecomesOld G h added (count x (K ++ N)) (count x updated) x
      go (inl l) q =
          let t = there_left m h x a.added a.left l in
          inl (
            t.0,
            Contains-append_left (a.added ++ b.added) j.added (x, h) (Contains-append_left a.added b.added (x, h) t.1),
            omega (arith, l, new_count x, none_new, kept_same x, stayed_same x, once x),
          )
      go (inr z) (inl l) =
          let t = there_left m h x b.added b.left l in
          inl (
            t.0,
            Contains-append_left (a.added ++ b.added) j.added (x, h) (Contains-append_right a.added b.added (x, h) t.1),
            omega (arith, l, new_count x, none_new, kept_same x, stayed_same x, once x),
          )
      go (inr y) (inr z) = inr (
        live (omega (arith, y, z, there, kept_same x, stayed_same x)),
        omega (arith, y, z, new_count x, none_new, kept_same x, stayed_same x, old_count x),
      )

  new_pair : (i : ℕ) → IsPair G (i, h) → BecomesNew S G h added (count (i, h) updated) i
  new_pair i p = go (j.new_pairs i p.ordered p)
    where
      -- it is none of those that were queued before
      no_old : count (i, h) K + count (i, h) N ≡ 0
      no_old = omega (arith, none_later h (i, h) K within_kept (omega arith), none_later h (i, h) N within_queued (omega arith))

      same : count (i, h) updated ≡ count (i, h) (pairs_of queued)
      same = omega (arith, new_count (i, h), kept_same (i, h), no_old)

      go : BecomesNew S G h j.added (count (i, h) (pairs_of queued)) i → BecomesNew S G h added (count (i, h) updated) i
      go (inl (k, d, there, none)) = inl (k, d, Contains-append_right (a.added ++ b.added) j.added ((i, h), k) there, same ∙ none)
      go (inr (remains, inl (spared, none))) = inr (remains, inl (spared, same ∙ none))
      go (inr (remains, inr (live, one))) = inr (remains, inr (live, same ∙ one))

  no_other : (x : Pair) → 0 < count x updated → (0 < count x (K ++ N)) ⊎ ((x.1 ≡ h) × IsPair G x)
  no_other x l = go (cases_lt 0 (count x (pairs_of kept)))
    where
      go : (0 < count x (pairs_of kept)) ⊎ (count x (pairs_of kept) ≤ 0) → (0 < count x (K ++ N)) ⊎ ((x.1 ≡ h) × IsPair G x)
      go (inl p) = inl (omega (arith, p, kept_same x, old_count x))
      go (inr p) = elim (j.no_others x (omega (arith, l, p, new_count x))) [
        | inl q ↦ inl (omega (arith, q, stayed_same x, old_count x))
        | inr q ↦ inr q
      ]

  pub updated_with : UpdatesWith S G h (K ++ N) D0 updated D3
  updated_with = record {
    added = added;
    appended = appended_is;
    by_rule = by_rules;
    once = once_dropped;
    earlier = earlier_pair;
    new_pairs = new_pair;
    no_others = no_other;
  }

  -- no pair is queued twice
  pub still_once : (x : Pair) → count x (pairs_of kept) + count x (pairs_of queued) ≤ 1
  still_once x = go (cases_lt x.1 h)
    where
      go : (x.1 < h) ⊎ (h ≤ x.1) → count x (pairs_of kept) + count x (pairs_of queued) ≤ 1
      go (inl l) = omega (arith, old_queued x l, kept_same x, stayed_same x, once x)
      go (inr l) = omega (arith, none_later h x K within_kept l, none_later h x N within_queued l, kept_same x, stayed_same x, j.few x)

  pub still_within : Each (AreIndices (h + 1)) updated
  still_within = each_counted (AreIndices (h + 1)) updated (λ x l. go x (no_other x l))
    where
      go : (x : Pair) → (0 < count x (K ++ N)) ⊎ ((x.1 ≡ h) × IsPair G x) → AreIndices (h + 1) x
      go x (inl l) =
          let p = count_each (AreIndices h) x (K ++ N) (Each_append (AreIndices h) K N within_kept within_queued) l in
          (p.0, omega (arith, p.1))
      go x (inr (e, p)) = (p.ordered, omega (arith, e))

-- ---- several members
module _ {n : ℕ} (S : Setting n) (G : List (FormalSum n)) where
  -- one more at the end
  pub turn_more :
      (k h : ℕ) (old : List Pair) (drops : List Drop) (middle : List Pair) (between : List Drop) (new : List Pair) (later : List Drop)
      → UpdatesInTurn S G h k old drops middle between → UpdatesWith S G (h + k) middle between new later
      → UpdatesInTurn S G h (suc k) old drops new later
  turn_more zero h old drops middle between new later (e, f) u =
      let at : h + 0 ≡ h = omega arith in
      let v : UpdatesWith S G h old drops new later =
      subst (λ (z : ℕ × (List Pair × List Drop)). UpdatesWith S G z.0 (z.1).0 (z.1).1 new later) (λ t. (at t, (e t, f t))) u in
      (new, later, v, (refl, refl))
  turn_more (suc k) h old drops middle between new later (first, after, u, rest) v =
      let at : h + suc k ≡ suc h + k = omega arith in
      (first, after, u, turn_more k (suc h) first after middle between new later rest (subst (λ z. UpdatesWith S G z middle between new later) at v))

  -- the update sees the new queue by its counts
  with_counts :
      (h : ℕ) (old new newer : List Pair) (drops later : List Drop) → ((x : Pair) → count x newer ≡ count x new)
      → UpdatesWith S G h old drops new later → UpdatesWith S G h old drops newer later
  with_counts h old new newer drops later same u = record {
    added = u.added;
    appended = u.appended;
    by_rule = u.by_rule;
    once = u.once;
    earlier = λ x l. subst (λ k. BecomesOld G h u.added (count x old) k x) (sym (same x)) (u.earlier x l);
    new_pairs = λ i p. subst (λ k. BecomesNew S G h u.added k i) (sym (same (i, h))) (u.new_pairs i p);
    no_others = λ x l. u.no_others x (omega (arith, l, same x));
  }

  pub turn_counts :
      (k h : ℕ) (old : List Pair) (drops : List Drop) (new newer : List Pair) (later : List Drop) → ((x : Pair) → count x newer ≡ count x new)
      → UpdatesInTurn S G h (suc k) old drops new later → UpdatesInTurn S G h (suc k) old drops newer later
  turn_counts zero h old drops new newer later same (middle, between, u, (e, f)) =
      (newer, later, subst (λ ds. UpdatesWith S G h old drops newer ds) (sym f) (with_counts h old middle newer drops between (λ x. same x ∙ ap (count x) e) u), (refl, refl))
  turn_counts (suc k) h old drops new newer later same (middle, between, u, rest) =
      (middle, between, u, turn_counts k (suc h) middle between new newer later same rest)

  -- behind drops of before
  with_front :
      (h : ℕ) (old new : List Pair) (front drops later : List Drop)
      → UpdatesWith S G h old drops new later → UpdatesWith S G h old (front ++ drops) new (front ++ later)
  with_front h old new front drops later u = record {
    added = u.added;
    appended = ap (λ l. front ++ l) u.appended ∙ sym (append_assoc front drops u.added);
    by_rule = u.by_rule;
    once = u.once;
    earlier = u.earlier;
    new_pairs = u.new_pairs;
    no_others = u.no_others;
  }

  pub turn_front :
      (k h : ℕ) (old new : List Pair) (front drops later : List Drop)
      → UpdatesInTurn S G h k old drops new later → UpdatesInTurn S G h k old (front ++ drops) new (front ++ later)
  turn_front zero h old new front drops later (e, f) = (e, ap (λ l. front ++ l) f)
  turn_front (suc k) h old new front drops later (middle, between, u, rest) =
      (middle, front ++ between, with_front h old middle front drops between u, turn_front k (suc h) middle new front between later rest)

  pub updates_front :
      (k : ℕ) (old new : List Pair) (front later : List Drop)
      → Updates S k G old [] new later → Updates S k G old front new (front ++ later)
  updates_front k old new front later u = record {
    sorted = u.sorted;
    in_turn = subst (λ ds. UpdatesInTurn S G k (length G - k) old ds new (front ++ later)) (append-nil front)
        (turn_front (length G - k) k old new front [] later u.in_turn);
  }

pub each_first : (P : Pair → Type 0) (xs ys : List Pair) → Each P (xs ++ ys) → Each P xs
each_first P [] ys h = tt
each_first P (x ∷ xs) ys h = (h.0, each_first P xs ys h.1)

pub each_second : (P : Pair → Type 0) (xs ys : List Pair) → Each P (xs ++ ys) → Each P ys
each_second P [] ys h = h
each_second P (x ∷ xs) ys h = each_second P xs ys h.1

-- the update with the next member
pub updating_more :
    (m : LeadsShown) (first h : ℕ) (old : List Pair) (drops : List Drop) (kept queued kept' stayed queued' : List CodePair) (D0 D1 D2 D3 : List Drop)
    → first ≤ h → Updating m first h old drops kept queued D0
    → Staying m h (pairs_of kept) D0 kept' [] D1 → Staying m h (pairs_of queued) D1 stayed [] D2 → Joining m h h (pairs_of stayed) D2 queued' D3
    → Updating m first (h + 1) old drops kept' queued' D3
updating_more m first h old drops kept queued kept' stayed queued' D0 D1 D2 D3 le u a b j =
    let K = pairs_of kept in
    let N = pairs_of queued in
    let wk = each_first (AreIndices h) K N u.within in
    let wn = each_second (AreIndices h) K N u.within in
    let one : (h + 1) - first ≡ suc (h - first) = omega (arith, le) in
    let at : first + (h - first) ≡ h = omega (arith, le) in
    record {
      in_turn = subst (λ k. UpdatesInTurn (setting_of_leads m.variables m) (sums_shown m) first k old drops (pairs_of kept' ++ pairs_of queued') D3) (sym one)
          (turn_more (setting_of_leads m.variables m) (sums_shown m) (h - first) first old drops (K ++ N) D0 (pairs_of kept' ++ pairs_of queued') D3 u.in_turn
          (subst (λ z. UpdatesWith (setting_of_leads m.variables m) (sums_shown m) z (K ++ N) D0 (pairs_of kept' ++ pairs_of queued') D3) (sym at)
          (updated_with m h K N D0 D1 D2 D3 kept' stayed queued' wk wn u.once a b j)));
      kept_real = a.kept_real;
      queued_real = j.real;
      within = still_within m h K N D0 D1 D2 D3 kept' stayed queued' wk wn u.once a b j;
      once = still_once m h K N D0 D1 D2 D3 kept' stayed queued' wk wn u.once a b j;
      sorted = subst (IsSorted (setting_of_leads m.variables m) (sums_shown m)) (append-nil (pairs_of kept')) (a.sorted u.sorted);
    }

-- before the first of the new members
pub updating_none :
    (m : LeadsShown) (first : ℕ) (kept : List CodePair) → Each (IsRealPair m) kept → Each (AreIndices first) (pairs_of kept)
    → IsSorted (setting_of_leads m.variables m) (sums_shown m) (pairs_of kept) → ((x : Pair) → count x (pairs_of kept) ≤ 1)
    → Updating m first first (pairs_of kept) [] kept [] []
updating_none m first kept real within sorted once =
    let none : ◌≡◌ {A = ℕ} (first - first) 0 = omega arith in
    record {
      in_turn = subst (λ k. UpdatesInTurn (setting_of_leads m.variables m) (sums_shown m) first k (pairs_of kept) [] (pairs_of kept ++ []) []) (sym none)
          (append-nil (pairs_of kept), refl);
      kept_real = real;
      queued_real = tt;
      within = subst (Each (AreIndices first)) (sym (append-nil (pairs_of kept))) within;
      once = λ x. omega (arith, once x);
      sorted = sorted;
    }

-- after the last of them
pub updating_done :
    (m : LeadsShown) (first h : ℕ) (old : List Pair) (kept queued all : List CodePair) (later : List Drop)
    → first < h → h ≡ length m.keys → Updating m first h old [] kept queued later
    → ((x : Pair) → count x (pairs_of all) ≡ count x (pairs_of kept) + count x (pairs_of queued))
    → IsSorted (setting_of_leads m.variables m) (sums_shown m) (pairs_of all)
    → Updates (setting_of_leads m.variables m) first (sums_shown m) old [] (pairs_of all) later
updating_done m first h old kept queued all later lt end u same sorted =
    let long : length (sums_shown m) ≡ h = leads_length m.variables m.keys ∙ sym end in
    let some : h - first ≡ suc ((h - first) - 1) = omega (arith, lt) in
    let turn = subst (λ k. UpdatesInTurn (setting_of_leads m.variables m) (sums_shown m) first k old [] (pairs_of kept ++ pairs_of queued) later) some u.in_turn in
    record {
      sorted = sorted;
      in_turn = subst (λ k. UpdatesInTurn (setting_of_leads m.variables m) (sums_shown m) first k old [] (pairs_of all) later)
          (sym some ∙ ap (λ l. l - first) (sym long))
          (turn_counts (setting_of_leads m.variables m) (sums_shown m) ((h - first) - 1) first old [] (pairs_of kept ++ pairs_of queued) (pairs_of all) later
          (λ x. omega (arith, same x, count-append x (pairs_of kept) (pairs_of queued))) turn);
    }

-- with no new member nothing changes
pub updates_of_none :
    (m : LeadsShown) (first : ℕ) (old : List Pair) (drops : List Drop) → length m.keys ≤ first
    → IsSorted (setting_of_leads m.variables m) (sums_shown m) old → Updates (setting_of_leads m.variables m) first (sums_shown m) old drops old drops
updates_of_none m first old drops le sorted =
    let none : ◌≡◌ {A = ℕ} (length (sums_shown m) - first) 0 = omega (arith, leads_length m.variables m.keys, le) in
    record {
      sorted = sorted;
      in_turn = subst (λ k. UpdatesInTurn (setting_of_leads m.variables m) (sums_shown m) first k old drops old drops) (sym none) (refl, refl);
    }

-- the pairs of two lists in one are real
pub merged_real :
    (m : LeadsShown) (kept queued all : List CodePair) → Each (IsRealPair m) kept → Each (IsRealPair m) queued
    → ((x : Pair) → count x (pairs_of all) ≡ count x (pairs_of kept) + count x (pairs_of queued)) → Each (HasLcm m) all → Each (IsRealPair m) all
merged_real m kept queued all a b same lcms =
    reals_of m all (each_counted (IsPair (sums_shown m)) (pairs_of all) (λ x l. go x l (cases_lt 0 (count x (pairs_of kept))))) lcms
  where
    go : (x : Pair) → 0 < count x (pairs_of all) → (0 < count x (pairs_of kept)) ⊎ (count x (pairs_of kept) ≤ 0) → IsPair (sums_shown m) x
    go x l (inl p) = count_each (IsPair (sums_shown m)) x (pairs_of kept) (pairs_real m kept a) p
    go x l (inr p) = count_each (IsPair (sums_shown m)) x (pairs_of queued) (pairs_real m queued b) (omega (arith, l, p, same x))
