-- Queued pairs that stay as a new member comes, and those that leave for it
use Rattle.std.proofs.Common.{Bool, Greater, Less, List, Ordering, [], ap, append-nil, append_assoc, arith, cond, false, inl, inr, refl, subst, sym, true, ℕ, ◌++◌, ◌+◌, ◌<◌, ◌∙◌, ◌∷◌, ◌≡◌, ◌≤◌, ◌⊎◌}
use Rattle.std.specs.Cmp.{IsTotalOrder}
use Rattle.std.specs.Ordering.{ordering_reverse}
use Rattle.std.proofs.lemmas.Bool.{cases_lt}
use Rattle.std.proofs.lemmas.List.{map-append}
use Rattle.formal_sums.proofs.WeightedSums.{Each_append}
use Rattle.formal_sums.specs.FormalSums.{Each, FormalSum}
use Rattle.bases.specs.Settings.{Setting}
use Rattle.basis_steps.proofs.Counting.{count-append, count_each, is_same_pair-true}
use Rattle.basis_steps.specs.Drops.{LeavesFor}
use Rattle.basis_steps.specs.Pairs.{Drop, Pair, count, is_same_pair, pairs_dropped}
use Rattle.basis_steps.specs.Queues.{IsSorted, compare_pairs}
use Rattle.pair_criteria.specs.declared.pair.Pair.{Pair as CodePair}
use Rattle.pair_updates.proofs.LeastDegree.{sorted_without}
use Rattle.pair_updates.proofs.PairOrder.{pairs_total}
use Rattle.pair_updates.proofs.SameLeads.{each_counted}
use Rattle.pair_updates.specs.Leads.{LeadsShown, setting_of_leads, sums_shown}
use Rattle.pair_updates.specs.Pairs.{IsRealPair, index_pair_of, pairs_of, AreIndices}
use Rattle.pair_updates.specs.Updating.{HasLeft, Staying}

-- a sorted list has no pair twice
no_self : {n : ℕ} (S : Setting n) (G : List (FormalSum n)) → IsTotalOrder S.compare → (x : Pair) → compare_pairs S G x x ≡ Less → ⊥
no_self S G o x e =
    let f : ◌≡◌ {A = Ordering} Less Greater = sym e ∙ (pairs_total S G o).antisymm x x ∙ ap ordering_reverse e in
    cc

pub sorted_once :
    {n : ℕ} (S : Setting n) (G : List (FormalSum n)) → IsTotalOrder S.compare → (xs : List Pair) → IsSorted S G xs → (x : Pair) → count x xs ≤ 1
sorted_once S G o [] s x = omega arith
sorted_once S G o (y ∷ ys) s x = go (is_same_pair x y) refl (sorted_once S G o ys s.1 x)
  where
    go : (b : Bool) → is_same_pair x y ≡ b → count x ys ≤ 1 → cond (is_same_pair x y) 1 0 + count x ys ≤ 1
    go true e rest =
        let is : x ≡ y = is_same_pair-true x y e in
        let none : count x ys ≡ 0 = absent is (cases_lt 0 (count x ys)) in
        let one : ◌≡◌ {A = ℕ} (cond (is_same_pair x y) 1 0) 1 = ap (λ b. cond b 1 0) e in
        omega (arith, none, one)
      where
        absent : x ≡ y → (0 < count x ys) ⊎ (count x ys ≤ 0) → count x ys ≡ 0
        absent is (inl l) =
            let less : compare_pairs S G y x ≡ Less = count_each (λ z. compare_pairs S G y z ≡ Less) x ys s.0 l in
            absurd (no_self S G o x (subst (λ z. compare_pairs S G z x ≡ Less) (sym is) less))
        absent is (inr l) = omega (arith, l)
    go false e rest =
        let none : ◌≡◌ {A = ℕ} (cond (is_same_pair x y) 1 0) 0 = ap (λ b. cond b 1 0) e in
        omega (arith, none, rest)

module _ (m : LeadsShown) (h : ℕ) (whole : List Pair) (drops : List Drop) where
  abbrev G : List (FormalSum m.variables)
  G = sums_shown m

  -- at the beginning all are still to be looked at
  pub none_looked_at : (rest : List CodePair) → pairs_of rest ≡ whole → Each (IsRealPair m) rest → Each (AreIndices h) (pairs_of rest)
      → Staying m h whole drops [] rest drops
  none_looked_at rest is real within = record {
    added = [];
    appended = sym (append-nil drops);
    left = tt;
    stay = tt;
    kept_real = tt;
    rest_real = real;
    within = within;
    same = λ x. omega (arith, ap (count x) is);
    sorted = λ s. subst (IsSorted (setting_of_leads m.variables m) G) (sym is) s;
  }

  module _ (kept : List CodePair) (x : CodePair) (rest : List CodePair) (later : List Drop) (s : Staying m h whole drops kept (x ∷ rest) later) where
    kept_is : pairs_of (kept ++ (x ∷ [])) ≡ pairs_of kept ++ (index_pair_of x ∷ [])
    kept_is = map-append index_pair_of kept (x ∷ [])

    pub one_stays : (LeavesFor G h (index_pair_of x) → ⊥) → Staying m h whole drops (kept ++ (x ∷ [])) rest later
    one_stays not = record {
      added = s.added;
      appended = s.appended;
      left = s.left;
      stay = subst (Each (λ x. LeavesFor G h x → ⊥)) (sym kept_is)
          (Each_append (λ x. LeavesFor G h x → ⊥) (pairs_of kept) (index_pair_of x ∷ []) s.stay (not, tt));
      kept_real = Each_append (IsRealPair m) kept (x ∷ []) s.kept_real (s.rest_real.0, tt);
      rest_real = s.rest_real.1;
      within = s.within.1;
      same = λ y. omega (arith, s.same y, count-append y (pairs_of kept) (index_pair_of x ∷ []), ap (count y) kept_is);
      sorted = λ w. subst (IsSorted (setting_of_leads m.variables m) G)
          (sym (append_assoc (pairs_of kept) (index_pair_of x ∷ []) (pairs_of rest)) ∙ ap (λ l. l ++ pairs_of rest) (sym kept_is)) (s.sorted w);
    }

    pub one_leaves : LeavesFor G h (index_pair_of x) → Staying m h whole drops kept rest (later ++ ((index_pair_of x, h) ∷ []))
    one_leaves leaves = record {
      added = s.added ++ ((index_pair_of x, h) ∷ []);
      appended = ap (λ l. l ++ ((index_pair_of x, h) ∷ [])) s.appended ∙ append_assoc drops s.added ((index_pair_of x, h) ∷ []);
      left = Each_append (HasLeft m h) s.added ((index_pair_of x, h) ∷ []) s.left ((leaves, refl), tt);
      stay = s.stay;
      kept_real = s.kept_real;
      rest_real = s.rest_real.1;
      within = s.within.1;
      same = λ y. omega (
        arith,
        s.same y,
        count-append y (pairs_dropped s.added) (index_pair_of x ∷ []),
        ap (count y) (map-append (λ (d : Drop). d.0) s.added ((index_pair_of x, h) ∷ [])),
      );
      sorted = λ w. sorted_without (setting_of_leads m.variables m) G (pairs_of kept) (pairs_of rest) (index_pair_of x) (s.sorted w);
    }

-- those that stay are of the earlier members that they were of
pub stayed_within :
    (m : LeadsShown) (h k : ℕ) (whole : List Pair) (drops : List Drop) (kept : List CodePair) (later : List Drop)
    → Staying m h whole drops kept [] later → Each (AreIndices k) whole → Each (AreIndices k) (pairs_of kept)
stayed_within m h k whole drops kept later s w =
    each_counted (AreIndices k) (pairs_of kept) (λ x l. count_each (AreIndices k) x whole w (omega (arith, l, s.same x)))
