-- What is known of queued pairs where members are added
use Rattle.std.proofs.Common.{Bool, List, [], ap, arith, cond, drop, false, inl, inr, length, nat_eq, refl, subst, suc, sym, take, true, zero, ℕ}
use Rattle.std.proofs.Common.{◌&&◌, ◌++◌, ◌+◌, ◌<◌, ◌∙◌, ◌∷◌, ◌≡◌, ◌≤◌, ◌⊎◌, eq-eqb, eqb-true}
use Rattle.std.specs.Prelude.{leb, ltb}
use Rattle.std.proofs.lemmas.Bool.{cases_lt, false≢true, le-leb, leb-true, lt-ltb, ltb-true}
use Rattle.std.proofs.lemmas.List.{length-append, length-take-le, take-append-drop}
use Rattle.formal_sums.specs.FormalSums.{Each, FormalSum, Key}
use Rattle.orders.specs.KeyOrders.{KeyDivides}
use Rattle.monomials.specs.Exponents.{lcm, times}
use Rattle.bases.specs.Leads.{leads}
use Rattle.term_lists.specs.declared.key.Key.{Key as CodeKey}
use Rattle.basis_steps.proofs.Counting.{count_each, pair_ordered, pair_swapped}
use Rattle.basis_steps.specs.Criteria.{ChainApplies, IsPair, lcm_of, waiting}
use Rattle.basis_steps.specs.Pairs.{Pair, count, pair_of}
use Rattle.basis_steps.specs.Queues.{IsSorted, is_new_pair}
use Rattle.basis_steps.specs.States.{pairs_out}
use Rattle.pair_criteria.specs.declared.pair.Pair.{Pair as CodePair}
use Rattle.pair_updates.proofs.Leading.{leads_front, leads_length}
use Rattle.pair_updates.proofs.NewPairs.{old_is_not_new}
use Rattle.pair_queue.proofs.Putting.{no_flag}
use Rattle.pair_updates.proofs.SameLeads.{each_counted, lcm_same, sorted_same}
use Rattle.pair_updates.specs.Leads.{LeadsShown, lead_sums, setting_of_leads, sums_shown}
use Rattle.pair_updates.specs.Pairs.{IsRealPair, AreIndices}
use Rattle.pair_queue.specs.Skipping.{IsKnown, IsSpared}
use Rattle.pair_updates.specs.LeadCriteria.{ProductSpares}
use Rattle.pair_queue.specs.Tables.{IsFlagTable, flagged}

and_left : (a b : Bool) → (a && b) ≡ true → a ≡ true
and_left true b h = refl
and_left false b h = h

and_right : (a b : Bool) → (a && b) ≡ true → b ≡ true
and_right true b h = h
and_right false b h = absurd (false≢true h)

-- ---- new pairs
module _ {n : ℕ} (G : List (FormalSum n)) (first : ℕ) where
  pub new_pair : (x : Pair) → first ≤ x.1 → IsPair G x → is_new_pair first G x ≡ true
  new_pair x l p = rw (le-leb first x.1 l, lt-ltb x.1 (length G) p.within, lt-ltb x.0 x.1 p.ordered)
      (eq-eqb (leads G x.0).0 (leads G x.1).0 (ap (λ (z : ℕ). z) p.position))

  pub new_later : (x : Pair) → is_new_pair first G x ≡ true → first ≤ x.1
  new_later x h = leb-true first x.1 (and_left (leb first x.1) (ltb x.1 (length G) && (ltb x.0 x.1 && nat_eq (leads G x.0).0 (leads G x.1).0)) h)

  pub new_real : (x : Pair) → is_new_pair first G x ≡ true → IsPair G x
  new_real x h =
      let a = and_right (leb first x.1) (ltb x.1 (length G) && (ltb x.0 x.1 && nat_eq (leads G x.0).0 (leads G x.1).0)) h in
      let b = and_right (ltb x.1 (length G)) (ltb x.0 x.1 && nat_eq (leads G x.0).0 (leads G x.1).0) a in
      record {
        ordered = ltb-true x.0 x.1 (and_left (ltb x.0 x.1) (nat_eq (leads G x.0).0 (leads G x.1).0) b);
        within = ltb-true x.1 (length G) (and_left (ltb x.1 (length G)) (ltb x.0 x.1 && nat_eq (leads G x.0).0 (leads G x.1).0) a);
        position = eqb-true (leads G x.0).0 (leads G x.1).0 (and_right (ltb x.0 x.1) (nat_eq (leads G x.0).0 (leads G x.1).0) b);
      }

  -- each pair that waits has its flag, the old ones and the new ones
  pub table_more :
      (f w : Pair → Bool) (before after added : List Pair) (out : List (Pair × ℕ))
      → Each (AreIndices first) before → Each (AreIndices first) (pairs_out out)
      → ((x : Pair) → count x added ≡ cond (is_new_pair first G x) 1 0)
      → ((x : Pair) → w x ≡ cond (ltb 0 (count x added)) true (f x))
      → ((x : Pair) → count x after ≡ count x before + cond (is_new_pair first G x) 1 0)
      → IsFlagTable f before out → IsFlagTable w after out
  table_more f w before after added out within within_out new flags same t = record { flags = λ x. go x (is_new_pair first G x) refl }
    where
      absent : (xs : List Pair) (x : Pair) → Each (AreIndices first) xs → first ≤ x.1 → count x xs ≡ 0
      absent xs x h l = by (count x xs) refl
        where
          by : (k : ℕ) → count x xs ≡ k → count x xs ≡ 0
          by zero e = e
          by (suc k) e = (let q = count_each (AreIndices first) x xs h (omega (arith, e)) in absurd (omega (arith, q.1, l)))

      go : (x : Pair) (b : Bool) → is_new_pair first G x ≡ b → flagged w x ≡ waiting after out x
      go x true e =
          let one : ◌≡◌ {A = ℕ} (cond (is_new_pair first G x) 1 0) 1 = ap (λ b. cond b 1 0) e in
          let set : w x ≡ true = flags x ∙ ap (λ k. cond (ltb 0 k) true (f x)) (new x ∙ one) in
          let f1 : ◌≡◌ {A = ℕ} (flagged w x) 1 = ap (λ b. cond b 1 0) set in
          omega (arith, one, f1, same x, absent before x within (new_later x e), absent (pairs_out out) x within_out (new_later x e))
      go x false e =
          let none : ◌≡◌ {A = ℕ} (cond (is_new_pair first G x) 1 0) 0 = ap (λ b. cond b 1 0) e in
          let set : w x ≡ f x = flags x ∙ ap (λ k. cond (ltb 0 k) true (f x)) (new x ∙ none) in
          let f1 : flagged w x ≡ flagged f x = ap (λ b. cond b 1 0) set in
          omega (arith, none, f1, same x, t.flags x)

-- ---- the criteria
module _ (m : LeadsShown) (first : ℕ) (few : first ≤ length m.keys) where
  abbrev old : LeadsShown
  old = record m { keys = take first m.keys }

  abbrev n : ℕ
  n = m.variables

  abbrev G : List (FormalSum n)
  G = sums_shown m

  abbrev H : List (FormalSum n)
  H = sums_shown old

  old_length : length H ≡ first
  old_length = leads_length n (take first m.keys) ∙ length-take-le first m.keys few

  pub leads_old : (i : ℕ) → i < first → leads H i ≡ leads G i
  leads_old i l =
      sym (leads_front n (take first m.keys) (drop first m.keys) i (omega (arith, l, length-take-le first m.keys few)))
      ∙ ap (λ ks. leads (lead_sums n ks) i) (take-append-drop first m.keys)

  lcm_old : (x : Pair) → AreIndices first x → lcm_of H x ≡ lcm_of G x
  lcm_old = lcm_same (setting_of_leads n m) (setting_of_leads n m) refl refl H G first leads_old

  module _ (f w : Pair → Bool) (kept : (x : Pair) → x.1 < first → w x ≡ f x) (new : (x : Pair) → is_new_pair first G x ≡ true → w x ≡ true) where
    product_same : (y : Pair) → AreIndices first y → ProductSpares old y ≡ ProductSpares m y
    product_same y h =
        let l : y.0 < first = omega (arith, h.0, h.1) in
        λ t. (m.rank ≡ 1) × (times (leads_old y.0 l t).1 (leads_old y.1 h.1 t).1 ≡ lcm (leads_old y.0 l t).1 (leads_old y.1 h.1 t).1)

    divides_same : (y : Pair) (k : ℕ) → AreIndices first y → k < first → KeyDivides (leads H k) (lcm_of H y) ≡ KeyDivides (leads G k) (lcm_of G y)
    divides_same y k h l = λ t. KeyDivides (leads_old k l t) (lcm_old y h t)

    flags_same : (x : Pair) → x.1 < first → flagged w x ≡ flagged f x
    flags_same x l = ap (λ b. cond b 1 0) (kept x l)

    both_below : (a b : ℕ) → a < first → b < first → (pair_of a b).1 < first
    both_below a b l k = omega (arith, l, k)

    spared_up : (y : Pair) → AreIndices first y → IsSpared old f y → IsSpared m w y
    spared_up y h (inl p) = inl (subst (λ (t : Type 0). t) (product_same y h) p)
    spared_up y h (inr (k, c)) =
        let l : k < first = omega (arith, c.within, old_length) in
        let low : y.0 < first = omega (arith, h.0, h.1) in
        inr (
          k,
          record {
            within = omega (arith, l, few, leads_length n m.keys);
            left = c.left;
            right = c.right;
            divides = subst (λ (t : Type 0). t) (divides_same y k h l) c.divides;
            with_left = flags_same (pair_of y.0 k) (both_below y.0 k low l) ∙ c.with_left;
            with_right = flags_same (pair_of k y.1) (both_below k y.1 l h.1) ∙ c.with_right;
          },
        )

    -- a chain by a new member does not apply: its pairs wait
    no_new_chain : (y : Pair) (k : ℕ) → IsPair G y → (first ≤ k) ⊎ (first ≤ y.1) → ChainApplies G (flagged w) y k → ⊥
    no_new_chain y k p later c = go (cases_lt k y.1) (cases_lt y.1 k)
      where
        position : (leads G k).0 ≡ (leads G y.1).0
        position = ap (λ (z : Key n). z.0) c.divides.1 ∙ p.position

        go : (k < y.1) ⊎ (y.1 ≤ k) → (y.1 < k) ⊎ (k ≤ y.1) → ⊥
        go (inl l) q =
            let is : pair_of k y.1 ≡ (k, y.1) = pair_ordered k y.1 l in
            let real : IsPair G (k, y.1) = record { ordered = l; within = p.within; position = position } in
            no_flag w (k, y.1) (ap (flagged w) (sym is) ∙ c.with_right) (new (k, y.1) (new_pair G first (k, y.1) (high l later) real))
          where
            high : k < y.1 → (first ≤ k) ⊎ (first ≤ y.1) → first ≤ y.1
            high l (inl a) = omega (arith, a, l)
            high l (inr a) = a
        go (inr l) (inl q) =
            let is : pair_of k y.1 ≡ (y.1, k) = pair_swapped k y.1 q in
            let real : IsPair G (y.1, k) = record { ordered = q; within = c.within; position = sym position } in
            no_flag w (y.1, k) (ap (flagged w) (sym is) ∙ c.with_right) (new (y.1, k) (new_pair G first (y.1, k) (high later) real))
          where
            high : (first ≤ k) ⊎ (first ≤ y.1) → first ≤ k
            high (inl a) = a
            high (inr a) = omega (arith, a, q)
        go (inr l) (inr q) = c.right (omega (arith, l, q))

    spared_down : (y : Pair) → AreIndices first y → IsPair G y → IsSpared m w y → IsSpared old f y
    spared_down y h p (inl q) = inl (subst (λ (t : Type 0). t) (sym (product_same y h)) q)
    spared_down y h p (inr (k, c)) = go (cases_lt k first)
      where
        low : y.0 < first
        low = omega (arith, h.0, h.1)

        go : (k < first) ⊎ (first ≤ k) → IsSpared old f y
        go (inl l) = inr (
          k,
          record {
            within = omega (arith, l, old_length);
            left = c.left;
            right = c.right;
            divides = subst (λ (t : Type 0). t) (sym (divides_same y k h l)) c.divides;
            with_left = sym (flags_same (pair_of y.0 k) (both_below y.0 k low l)) ∙ c.with_left;
            with_right = sym (flags_same (pair_of k y.1) (both_below k y.1 l h.1)) ∙ c.with_right;
          },
        )
        go (inr l) = absurd (no_new_chain y k p (inl l) c)

    pub known_old : (d e : Pair → Bool) (y : Pair) → AreIndices first y → IsPair G y → e y ≡ d y → IsKnown old f d y → IsKnown m w e y
    known_old d e y h p same known = record {
      shut = λ s. spared_up y h (known.shut (sym same ∙ s));
      free = λ s q. known.free (sym same ∙ s) (spared_down y h p q);
    }

    pub known_new : (e : Pair → Bool) (y : Pair) → first ≤ y.1 → IsPair G y → (e y ≡ false → ProductSpares m y) → (e y ≡ true → ProductSpares m y → ⊥)
        → IsKnown m w e y
    known_new e y l p shut free = record {
      shut = λ s. inl (shut s);
      free = λ s q. elim q [
        | inl r ↦ free s r
        | inr (k, c) ↦ no_new_chain y k p (inr l) c
      ];
    }

-- the queued pairs are real ones of more members too
pub reals_more : (m : LeadsShown) (first : ℕ) → first ≤ length m.keys → (xs : List CodePair)
    → Each (IsRealPair (record m { keys = take first m.keys })) xs → Each (IsRealPair m) xs
reals_more m first few [] h = tt
reals_more m first few (x ∷ xs) h = (one x h.0, reals_more m first few xs h.1)
  where
    one : (x : CodePair) → IsRealPair (record m { keys = take first m.keys }) x → IsRealPair m x
    one x r =
        let l : x.j < first = omega (arith, r.pair.within, old_length m first few) in
        let k : x.i < first = omega (arith, r.pair.ordered, l) in
        record {
          pair = record {
            ordered = r.pair.ordered;
            within = omega (arith, l, few, leads_length m.variables m.keys);
            position = sym (ap (λ (z : Key m.variables). z.0) (leads_old m first few x.i k)) ∙ r.pair.position
                ∙ ap (λ (z : Key m.variables). z.0) (leads_old m first few x.j l);
          };
          lcm = record { weighed = r.lcm.weighed; lcm = r.lcm.lcm ∙ lcm_old m first few (x.i, x.j) (r.pair.ordered, l) };
        }

-- ---- the queue with the new pairs
module _ (m : LeadsShown) (first : ℕ) (few : first ≤ length m.keys) where
  counted : (b : Bool) → 0 < cond {A = ℕ} b 1 0 → b ≡ true
  counted true l = refl
  counted false l = absurd (omega (arith, l))

  pub new_reals : (xs : List Pair) → ((x : Pair) → count x xs ≡ cond (is_new_pair first (sums_shown m) x) 1 0) → Each (IsPair (sums_shown m)) xs
  new_reals xs h = each_counted (IsPair (sums_shown m)) xs
      (λ x l. new_real (sums_shown m) first x (counted (is_new_pair first (sums_shown m) x) (omega (arith, l, h x))))

  module _ (before after : List Pair) (same : (x : Pair) → count x after ≡ count x before + cond (is_new_pair first (sums_shown m) x) 1 0) where
    pub merged_reals : Each (IsPair (sums_shown m)) before → Each (IsPair (sums_shown m)) after
    merged_reals h = each_counted (IsPair (sums_shown m)) after (λ x l. go x l (is_new_pair first (sums_shown m) x) refl)
      where
        go : (x : Pair) → 0 < count x after → (b : Bool) → is_new_pair first (sums_shown m) x ≡ b → IsPair (sums_shown m) x
        go x l true e = new_real (sums_shown m) first x e
        go x l false e =
            let none : ◌≡◌ {A = ℕ} (cond (is_new_pair first (sums_shown m) x) 1 0) 0 = ap (λ b. cond b 1 0) e in
            count_each (IsPair (sums_shown m)) x before h (omega (arith, none, same x, l))

    pub known_more :
        (f d w e : Pair → Bool) (added : List Pair)
        → ((x : Pair) → count x added ≡ cond (is_new_pair first (sums_shown m) x) 1 0)
        → ((x : Pair) → w x ≡ cond (ltb 0 (count x added)) true (f x))
        → ((x : Pair) → count x added ≡ 0 → e x ≡ d x)
        → ((x : Pair) → 0 < count x added → e x ≡ false → ProductSpares m x)
        → ((x : Pair) → 0 < count x added → e x ≡ true → ProductSpares m x → ⊥)
        → Each (AreIndices first) before → Each (IsPair (sums_shown m)) after
        → Each (IsKnown (record m { keys = take first m.keys }) f d) before → Each (IsKnown m w e) after
    known_more f d w e added new flags others shut free within reals known =
        each_counted (IsKnown m w e) after (λ x l. go x l (is_new_pair first (sums_shown m) x) refl)
      where
        none_of : (x : Pair) → is_new_pair first (sums_shown m) x ≡ false → count x added ≡ 0
        none_of x e = new x ∙ ap (λ b. cond b 1 0) e

        one_of : (x : Pair) → is_new_pair first (sums_shown m) x ≡ true → count x added ≡ 1
        one_of x e = new x ∙ ap (λ b. cond b 1 0) e

        kept : (x : Pair) → x.1 < first → w x ≡ f x
        kept x l = flags x ∙ ap (λ k. cond (ltb 0 k) true (f x)) (none_of x (old_is_not_new (sums_shown m) first x l))

        waits : (x : Pair) → is_new_pair first (sums_shown m) x ≡ true → w x ≡ true
        waits x e = flags x ∙ ap (λ k. cond (ltb 0 k) true (f x)) (one_of x e)

        go : (x : Pair) → 0 < count x after → (b : Bool) → is_new_pair first (sums_shown m) x ≡ b → IsKnown m w e x
        go x l true q =
            let some : 0 < count x added = omega (arith, one_of x q) in
            known_new m first few f w kept waits e x (new_later (sums_shown m) first x q) (new_real (sums_shown m) first x q) (shut x some) (free x some)
        go x l false q =
            let none : ◌≡◌ {A = ℕ} (cond (is_new_pair first (sums_shown m) x) 1 0) 0 = ap (λ b. cond b 1 0) q in
            let there : 0 < count x before = omega (arith, none, same x, l) in
            known_old m first few f w kept waits d e x (count_each (AreIndices first) x before within there)
            (count_each (IsPair (sums_shown m)) x after reals l) (others x (none_of x q))
            (count_each (IsKnown (record m { keys = take first m.keys }) f d) x before known there)

-- ---- leads that are added, and taken back
front : (ks more : List CodeKey) → take (length ks) (ks ++ more) ≡ ks
front [] more = none more
  where
    none : (ys : List CodeKey) → take 0 ys ≡ []
    none [] = refl
    none (y ∷ ys) = refl
front (k ∷ ks) more = ap (λ l. k ∷ l) (front ks more)

pub leads_back : (l : LeadsShown) (more : List CodeKey) (first : ℕ) → first ≡ length l.keys → record l { keys = take first (l.keys ++ more) } ≡ l
leads_back l more first e = λ t. record l { keys = (ap (λ k. take k (l.keys ++ more)) e ∙ front l.keys more) t }

-- of more leads the first are those before
pub leads_cut : (l new : LeadsShown) (more : List CodeKey) (first : ℕ) → new ≡ record l { keys = l.keys ++ more } → first ≡ length l.keys
    → record new { keys = take first new.keys } ≡ l
leads_cut l new more first is e = ap (λ (z : LeadsShown). record z { keys = take first z.keys }) is ∙ leads_back l more first e

pub reals_added : (l : LeadsShown) (more : List CodeKey) (xs : List CodePair) → Each (IsRealPair l) xs
    → Each (IsRealPair (record l { keys = l.keys ++ more })) xs
reals_added l more xs h =
    reals_more (record l { keys = l.keys ++ more }) (length l.keys) (omega (arith, length-append l.keys more)) xs
    (subst (λ (z : LeadsShown). Each (IsRealPair z) xs) (sym (leads_back l more (length l.keys) refl)) h)

pub sorted_added :
    (l : LeadsShown) (more : List CodeKey) (xs : List Pair)
    → Each (AreIndices (length l.keys)) xs → IsSorted (setting_of_leads l.variables l) (sums_shown l) xs
    → IsSorted (setting_of_leads l.variables (record l { keys = l.keys ++ more })) (sums_shown (record l { keys = l.keys ++ more })) xs
sorted_added l more xs within h =
    sorted_same (setting_of_leads l.variables l) (setting_of_leads l.variables (record l { keys = l.keys ++ more })) refl refl (sums_shown l)
    (sums_shown (record l { keys = l.keys ++ more })) (length l.keys)
    (λ i lt. sym (leads_front l.variables l.keys more i lt)) xs within h
