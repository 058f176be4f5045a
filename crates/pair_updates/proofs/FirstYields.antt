-- To which pair of its new member each new pair yields first
use Rattle.std.proofs.Common.{List, None, Option, Some, [], ap, arith, get_or, inl, inr, length, refl, set, subst, sym, ℕ, ◌++◌, ◌+◌, ◌<◌, ◌∙◌, ◌∷◌, ◌≡◌, ◌≤◌, ◌⊎◌}
use Rattle.std.proofs.lemmas.Bool.{cases_lt}
use Rattle.std.proofs.lemmas.List.{get_or-set_other, get_or-set_same, get_or_append_left, get_or_push, length-set, length_push}
use Rattle.std.specs.Prelude.{MatchOption}
use Rattle.monomials.specs.Exponents.{degree}
use Rattle.formal_sums.proofs.WeightedSums.{Each_append}
use Rattle.formal_sums.specs.FormalSums.{Each, FormalSum}
use Rattle.orders.proofs.KeyOrdering.{KeyDivides_trans}
use Rattle.term_lists.proofs.Parts.{Each_member}
use Rattle.basis_steps.proofs.Dropping.{proper_degree}
use Rattle.basis_steps.specs.Criteria.{IsPair, lcm_of}
use Rattle.basis_steps.specs.Drops.{DividesProperly, YieldsTo}
use Rattle.basis_steps.specs.Updates.{IsOfGroup, Remains, YieldsFirstTo}
use Rattle.pair_updates.specs.Dropping.{AreNewPairs, IsNewPair}
use Rattle.pair_updates.specs.FirstYields.{AreFirstYields, AreLowerYields, AreSettled, HasGroup, IsFirstAmong, IsLowerYield, IsYieldSettled, NumbersRise, StandsFrom}
use Rattle.pair_updates.specs.Leads.{LeadsShown, sums_shown}

-- ---- numbers that rise
-- the item with this index, and one more
pub at_within : (k : ℕ) (cs : List ℕ) (x : ℕ) → Each (λ c. c < k) cs → x < length cs → get_or cs x 0 < k
at_within k cs x h lt = Each_member (λ c. c < k) cs x 0 h lt

wider : (k : ℕ) (cs : List ℕ) → Each (λ c. c < k) cs → Each (λ c. c < k + 1) cs
wider k [] h = tt
wider k (c ∷ cs) h = (let l = h.0 in omega (arith, l), wider k cs h.1)

pub more_within : (k i : ℕ) (cs : List ℕ) → Each (λ c. c < k) cs → i < k → Each (λ c. c < k) (cs ++ i ∷ [])
more_within k i cs h lt = Each_append (λ c. c < k) cs (i ∷ []) h (lt, tt)

rises_push : (cs : List ℕ) (i : ℕ) → NumbersRise cs → ((x : ℕ) → x < length cs → get_or cs x 0 < i) → NumbersRise (cs ++ i ∷ [])
rises_push cs i h below x y lt l = go (cases_lt y (length cs))
  where
    go : (y < length cs) ⊎ (length cs ≤ y) → get_or (cs ++ i ∷ []) x 0 < get_or (cs ++ i ∷ []) y 0
    go (inl m) =
        let a = get_or_append_left cs (i ∷ []) 0 x (omega (arith, lt, m)) in
        let b = get_or_append_left cs (i ∷ []) 0 y m in
        let r = h x y lt m in
        omega (arith, a, b, r)
    go (inr m) =
        let e : y ≡ length cs = omega (arith, l, m, length_push cs i) in
        let a = get_or_append_left cs (i ∷ []) 0 x (omega (arith, lt, e)) in
        let b : get_or (cs ++ i ∷ []) y 0 ≡ i = ap (λ z. get_or (cs ++ i ∷ []) z 0) e ∙ get_or_push cs i 0 (length cs) refl in
        let r = below x (omega (arith, lt, e)) in
        omega (arith, a, b, r)

stands_still : (cs : List ℕ) (i from c : ℕ) → StandsFrom cs from c → StandsFrom (cs ++ i ∷ []) from c
stands_still cs i from c s = record {
  at = s.at;
  late = s.late;
  within = let w = s.within in omega (arith, w, length_push cs i);
  is = get_or_append_left cs (i ∷ []) 0 s.at s.within ∙ s.is;
}

stands_new : (cs : List ℕ) (i from : ℕ) → from ≤ length cs → StandsFrom (cs ++ i ∷ []) from i
stands_new cs i from l = record { at = length cs; late = l; within = omega (arith, length_push cs i); is = get_or_push cs i 0 (length cs) refl }

-- what is lower stands before
before : (cs : List ℕ) (from c x : ℕ) → NumbersRise cs → (s : StandsFrom cs from c) → x < length cs → get_or cs x 0 < c → x < s.at
before cs from c x h s lt l = go (cases_lt x s.at) (cases_lt s.at x)
  where
    go : (x < s.at) ⊎ (s.at ≤ x) → (s.at < x) ⊎ (x ≤ s.at) → x < s.at
    go (inl m) q = m
    go (inr m) (inl q) = absurd (let r = h s.at x q lt in let e = s.is in omega (arith, r, e, l))
    go (inr m) (inr q) =
        let e : x ≡ s.at = omega (arith, m, q) in
        absurd (let f = ap (λ z. get_or cs z 0) e ∙ s.is in omega (arith, f, l))

-- ---- yields
-- what yields to a pair that yields to a third yields to the third
pub yields_through : {n : ℕ} (G : List (FormalSum n)) (h i j c : ℕ) → YieldsTo G h i j → YieldsTo G h j c → YieldsTo G h i c
yields_through G h i j c a b = record {
  pair = b.pair;
  divides = record {
    divides = KeyDivides_trans (lcm_of G (c, h)) (lcm_of G (j, h)) (lcm_of G (i, h)) b.divides.divides a.divides.divides;
    other = λ e.
        let x = proper_degree (lcm_of G (c, h)) (lcm_of G (j, h)) b.divides in
        let y = proper_degree (lcm_of G (j, h)) (lcm_of G (i, h)) a.divides in
        let z = ap (λ k. degree k.1) e in
        omega (arith, x, y, z);
  };
}

-- a pair that yields is one: so what is none yields to none
pub yielding_pair : {n : ℕ} (G : List (FormalSum n)) (h i c : ℕ) → i < h → YieldsTo G h i c → IsPair G (i, h)
yielding_pair G h i c lt y =
    record { ordered = lt; within = y.pair.within; position = sym (ap (λ k. k.0) y.divides.divides.1) ∙ y.pair.position }

pub none_yields : {n : ℕ} (G : List (FormalSum n)) (h i c : ℕ) → (IsPair G (i, h) → ⊥) → i < h → YieldsTo G h i c → ⊥
none_yields G h i c none lt y = none (yielding_pair G h i c lt y)

module _ (m : LeadsShown) (h k : ℕ) (firsts : List (Option ℕ)) (active : List ℕ) (low : AreLowerYields m h k firsts active) where
  abbrev G : List (FormalSum m.variables)
  G = sums_shown m

  -- what yields to no active member below b yields to none below b
  pub no_lower :
      (i b : ℕ) → b ≤ k → ((x : ℕ) → x < length active → get_or active x 0 < b → YieldsTo G h i (get_or active x 0) → ⊥)
      → (l : ℕ) → l < b → YieldsTo G h i l → ⊥
  no_lower i b most none l lt y = go (get_or firsts l None) refl (low.each l (omega (arith, lt, most)))
    where
      met : (c : ℕ) → c < b → get_or firsts c None ≡ None → YieldsTo G h i c → ⊥
      met c below e z =
          let s = low.all c (omega (arith, below, most)) e z.pair in
          none s.at s.within (subst (λ d. d < b) (sym s.is) below) (subst (YieldsTo G h i) (sym s.is) z)

      go : (first : Option ℕ) → get_or firsts l None ≡ first → IsLowerYield G h l first → ⊥
      go None e own = met l lt e y
      go (Some d) e own = further (get_or firsts d None) refl (low.each d (omega (arith, lt, most, own.0)))
        where
          further : (first : Option ℕ) → get_or firsts d None ≡ first → IsLowerYield G h d first → ⊥
          further None f none_lower = met d (omega (arith, lt, own.0)) f (yields_through G h i l d y own.1.yields)
          further (Some c) f lower = own.1.first c lower.0 (yields_through G h l d c own.1.yields lower.1.yields)

-- ---- one member more
module _ (m : LeadsShown) (h i : ℕ) (firsts : List (Option ℕ)) (active : List ℕ) (r : Option ℕ) (low : AreLowerYields m h i firsts active)
    (among : IsFirstAmong (sums_shown m) h i active 0 r) where
  abbrev G' : List (FormalSum m.variables)
  G' = sums_shown m

  own_lower : (first : Option ℕ) → IsFirstAmong G' h i active 0 first → IsLowerYield G' h i first
  own_lower None none = no_lower m h i firsts active low i i (omega arith) (λ x lt below. none x (omega arith) lt)
  own_lower (Some c) f =
      let s = f.stands in
      let below : c < i = subst (λ z. z < i) s.is (at_within i active s.at low.within s.within) in (
        below,
        record {
          yields = f.yields;
          first = no_lower m h i firsts active low i c (omega (arith, below))
              (λ x lt l. f.before x (omega arith) (before active 0 c x low.rises s lt l));
        },
      )

  at_end : get_or (firsts ++ r ∷ []) i None ≡ r
  at_end = ap (λ z. get_or (firsts ++ r ∷ []) z None) (sym low.len) ∙ get_or_push firsts r None (length firsts) refl

  as_before : (l : ℕ) → l < i → get_or (firsts ++ r ∷ []) l None ≡ get_or firsts l None
  as_before l lt = get_or_append_left firsts (r ∷ []) None l (let e = low.len in omega (arith, lt, e))

  one_more_each : (l : ℕ) → l < i + 1 → IsLowerYield G' h l (get_or (firsts ++ r ∷ []) l None)
  one_more_each l lt = go (cases_lt l i)
    where
      go : (l < i) ⊎ (i ≤ l) → IsLowerYield G' h l (get_or (firsts ++ r ∷ []) l None)
      go (inl q) = subst (IsLowerYield G' h l) (sym (as_before l q)) (low.each l q)
      go (inr q) =
          let e : i ≡ l = omega (arith, lt, q) in
          subst (λ z. IsLowerYield G' h z (get_or (firsts ++ r ∷ []) z None)) e (subst (IsLowerYield G' h i) (sym at_end) (own_lower r among))

  old_none : (x : ℕ) → x < length active → get_or (firsts ++ r ∷ []) (get_or active x 0) None ≡ None
  old_none x lt = as_before (get_or active x 0) (at_within i active x low.within lt) ∙ low.none x lt

  pub lower_same : (r ≡ None → IsPair G' (i, h) → ⊥) → AreLowerYields m h (i + 1) (firsts ++ r ∷ []) active
  lower_same absent = record {
    len = let e = low.len in omega (arith, e, length_push firsts r);
    each = one_more_each;
    rises = low.rises;
    within = wider i active low.within;
    none = old_none;
    all = λ l lt e pair. go l e pair (cases_lt l i) lt;
  }
    where
      go : (l : ℕ) → get_or (firsts ++ r ∷ []) l None ≡ None → IsPair G' (l, h) → (l < i) ⊎ (i ≤ l) → l < i + 1 → StandsFrom active 0 l
      go l e pair (inl q) lt = low.all l q (sym (as_before l q) ∙ e) pair
      go l e pair (inr q) lt =
          let f : l ≡ i = omega (arith, lt, q) in
          absurd (absent (sym at_end ∙ ap (λ z. get_or (firsts ++ r ∷ []) z None) (sym f) ∙ e) (subst (λ z. IsPair G' (z, h)) f pair))

  pub lower_pushed : r ≡ None → AreLowerYields m h (i + 1) (firsts ++ r ∷ []) (active ++ i ∷ [])
  lower_pushed is = record {
    len = let e = low.len in omega (arith, e, length_push firsts r);
    each = one_more_each;
    rises = rises_push active i low.rises (λ x lt. at_within i active x low.within lt);
    within = more_within (i + 1) i active (wider i active low.within) (omega arith);
    none = none;
    all = λ l lt e pair. go l e pair (cases_lt l i) lt;
  }
    where
      none : (x : ℕ) → x < length (active ++ i ∷ []) → get_or (firsts ++ r ∷ []) (get_or (active ++ i ∷ []) x 0) None ≡ None
      none x lt = by (cases_lt x (length active))
        where
          by : (x < length active) ⊎ (length active ≤ x) → get_or (firsts ++ r ∷ []) (get_or (active ++ i ∷ []) x 0) None ≡ None
          by (inl q) = ap (λ z. get_or (firsts ++ r ∷ []) z None) (get_or_append_left active (i ∷ []) 0 x q) ∙ old_none x q
          by (inr q) =
              let e : x ≡ length active = omega (arith, lt, q, length_push active i) in
              ap (λ z. get_or (firsts ++ r ∷ []) z None) (ap (λ z. get_or (active ++ i ∷ []) z 0) e ∙ get_or_push active i 0 (length active) refl) ∙ at_end ∙ is

      go : (l : ℕ) → get_or (firsts ++ r ∷ []) l None ≡ None → IsPair G' (l, h) → (l < i) ⊎ (i ≤ l) → l < i + 1 → StandsFrom (active ++ i ∷ []) 0 l
      go l e pair (inl q) lt = stands_still active i 0 l (low.all l q (sym (as_before l q) ∙ e) pair)
      go l e pair (inr q) lt =
          let f : i ≡ l = omega (arith, lt, q) in
          subst (StandsFrom (active ++ i ∷ []) 0) f (stands_new active i 0 (omega arith))

-- nothing is known at the beginning
pub no_lower_yields : (m : LeadsShown) (h : ℕ) → AreLowerYields m h 0 [] []
no_lower_yields m h = record {
  len = refl;
  each = λ i lt. absurd (omega (arith, lt));
  rises = λ x y lt l. absurd (omega (arith, l));
  within = tt;
  none = λ x lt. absurd (omega (arith, lt));
  all = λ i lt e pair. absurd (omega (arith, lt));
}

-- ---- the second turn
-- before it each pair has its lower yield, or waits, or is none
pub settled_first :
    (m : LeadsShown) (h : ℕ) (news : List (Option ℕ)) (firsts : List (Option ℕ)) (active : List ℕ) → AreNewPairs m h news
    → AreLowerYields m h h firsts active → AreSettled m h active 0 firsts []
settled_first m h news firsts active all low = record {
  len = low.len;
  each = λ i lt. go i lt (get_or firsts i None) refl (low.each i lt);
  rises = λ x y lt l. absurd (omega (arith, l));
  low = λ x y lt. absurd (omega (arith, lt));
  within = tt;
}
  where
    waits : (i : ℕ) → i < h → get_or firsts i None ≡ None → (o : Option ℕ) → IsNewPair m h i o
        → (IsPair (sums_shown m) (i, h) → ⊥) ⊎ (StandsFrom active 0 i ⊎ (Remains (sums_shown m) h i × StandsFrom [] 0 i))
    waits i lt e None none = inl none
    waits i lt e (Some a) some = inr (inl (low.all i lt e some.pair))

    go : (i : ℕ) → i < h → (first : Option ℕ) → get_or firsts i None ≡ first → IsLowerYield (sums_shown m) h i first
        → IsYieldSettled (sums_shown m) h active 0 [] i first
    go i lt None e own = waits i lt e (get_or news i None) (all.each i lt)
    go i lt (Some c) e own = own.1

module _ (m : LeadsShown) (h k : ℕ) (lower : List (Option ℕ)) (active : List ℕ) (low : AreLowerYields m h h lower active) (more : k < length active) where
  abbrev H : List (FormalSum m.variables)
  H = sums_shown m

  abbrev now : ℕ
  now = get_or active k 0

  below_h : now < h
  below_h = at_within h active k low.within more

  none_below : (l : ℕ) → l < now → YieldsTo H h now l → ⊥
  none_below = subst (IsLowerYield H h now) (low.none k more) (low.each now below_h)

  -- it yields to no active member up to itself
  up_to : (x : ℕ) → x ≤ k → YieldsTo H h now (get_or active x 0) → ⊥
  up_to x l y = go (cases_lt x k)
    where
      go : (x < k) ⊎ (k ≤ x) → ⊥
      go (inl q) = none_below (get_or active x 0) (low.rises x k q more) y
      go (inr q) = let e : x ≡ k = omega (arith, l, q) in y.divides.other (ap (λ z. lcm_of H (get_or active z 0, h)) e)

  -- so where it yields to no later one up to some place, it yields to none of lower numbers
  no_yield :
      (b : ℕ) → b ≤ h → ((x : ℕ) → k + 1 ≤ x → x < length active → get_or active x 0 < b → YieldsTo H h now (get_or active x 0) → ⊥)
      → (l : ℕ) → l < b → YieldsTo H h now l → ⊥
  no_yield b most none = no_lower m h h lower active low now b most (λ x lt below. go x lt below (cases_lt k x))
    where
      go : (x : ℕ) → x < length active → get_or active x 0 < b → (k < x) ⊎ (x ≤ k) → YieldsTo H h now (get_or active x 0) → ⊥
      go x lt below (inl q) = none x (omega (arith, q)) lt below
      go x lt below (inr q) = up_to x q

  pub now_remains : ((x : ℕ) → k + 1 ≤ x → x < length active → YieldsTo H h now (get_or active x 0) → ⊥) → Remains H h now
  now_remains none j y = no_yield h (omega arith) (λ x l lt below. none x l lt) j y.pair.ordered y

  pub now_yields : (c : ℕ) → IsFirstAmong H h now active (k + 1) (Some c) → YieldsFirstTo H h now c
  now_yields c f =
      let s = f.stands in
      let below : c < h = subst (λ z. z < h) s.is (at_within h active s.at low.within s.within) in
      record {
        yields = f.yields;
        first = no_yield c (omega (arith, below)) (λ x l lt q. f.before x l (before active (k + 1) c x low.rises s lt q));
      }

  -- what waits waits still, or its turn is now
  waiting_on : (l : ℕ) → StandsFrom active k l → (l ≡ now → ⊥) → StandsFrom active (k + 1) l
  waiting_on l s other = record { at = s.at; late = go (cases_lt k s.at); within = s.within; is = s.is }
    where
      go : (k < s.at) ⊎ (s.at ≤ k) → k + 1 ≤ s.at
      go (inl q) = omega (arith, q)
      go (inr q) = let e : s.at ≡ k = let a = s.late in omega (arith, a, q) in absurd (other (sym s.is ∙ ap (λ z. get_or active z 0) e))

  module _ (firsts : List (Option ℕ)) (left : List ℕ) (old : AreSettled m h active k firsts left) where
    still : (l : ℕ) (first : Option ℕ) → (l ≡ now → ⊥) → IsYieldSettled H h active k left l first → IsYieldSettled H h active (k + 1) left l first
    still l None other (inl none) = inl none
    still l None other (inr (inl s)) = inr (inl (waiting_on l s other))
    still l None other (inr (inr q)) = inr (inr q)
    still l (Some c) other y = y

    pub settled_some : (c : ℕ) → YieldsFirstTo H h now c → AreSettled m h active (k + 1) (set firsts now (Some c)) left
    settled_some c y = record {
      len = length-set firsts now (Some c) ∙ old.len;
      each = λ l lt. go l lt (cases_lt l now) (cases_lt now l);
      rises = old.rises;
      low = λ x z lt q. old.low x z lt (omega (arith, q));
      within = old.within;
    }
      where
        other : (l : ℕ) → l < h → (l ≡ now → ⊥) → IsYieldSettled H h active (k + 1) left l (get_or (set firsts now (Some c)) l None)
        other l lt ne =
            subst (IsYieldSettled H h active (k + 1) left l) (sym (get_or-set_other firsts now l (Some c) None ne))
            (still l (get_or firsts l None) ne (old.each l lt))

        go : (l : ℕ) → l < h → (l < now) ⊎ (now ≤ l) → (now < l) ⊎ (l ≤ now) → IsYieldSettled H h active (k + 1) left l (get_or (set firsts now (Some c)) l None)
        go l lt (inl q) p = other l lt (λ e. omega (arith, e, q))
        go l lt (inr q) (inl p) = other l lt (λ e. omega (arith, e, p))
        go l lt (inr q) (inr p) =
            let e : now ≡ l = omega (arith, p, q) in
            subst (λ z. IsYieldSettled H h active (k + 1) left z (get_or (set firsts now (Some c)) z None)) e
            (subst (IsYieldSettled H h active (k + 1) left now) (sym (get_or-set_same firsts now (Some c) None (let a = old.len in let b = below_h in omega (arith, a, b)))) y)

    pub settled_none : Remains H h now → AreSettled m h active (k + 1) firsts (left ++ now ∷ [])
    settled_none remains = record {
      len = old.len;
      each = λ l lt. go l (get_or firsts l None) (old.each l lt);
      rises = rises_push left now old.rises (λ x lt. old.low x k lt (omega arith) more);
      low = low_more;
      within = more_within h now left old.within below_h;
    }
      where
        go : (l : ℕ) (first : Option ℕ) → IsYieldSettled H h active k left l first → IsYieldSettled H h active (k + 1) (left ++ now ∷ []) l first
        go l None (inl none) = inl none
        go l None (inr (inl s)) = by (cases_lt l now) (cases_lt now l)
          where
            by : (l < now) ⊎ (now ≤ l) → (now < l) ⊎ (l ≤ now) → IsYieldSettled H h active (k + 1) (left ++ now ∷ []) l None
            by (inl q) p = inr (inl (waiting_on l s (λ e. omega (arith, e, q))))
            by (inr q) (inl p) = inr (inl (waiting_on l s (λ e. omega (arith, e, p))))
            by (inr q) (inr p) =
                let e : now ≡ l = omega (arith, p, q) in
                inr (inr (subst (λ z. Remains H h z × StandsFrom (left ++ now ∷ []) 0 z) e (remains, stands_new left now 0 (omega arith))))
        go l None (inr (inr q)) = inr (inr (q.0, stands_still left now 0 l q.1))
        go l (Some c) y = y

        low_more : (x y : ℕ) → x < length (left ++ now ∷ []) → k + 1 ≤ y → y < length active → get_or (left ++ now ∷ []) x 0 < get_or active y 0
        low_more x y lt l q = by (cases_lt x (length left))
          where
            by : (x < length left) ⊎ (length left ≤ x) → get_or (left ++ now ∷ []) x 0 < get_or active y 0
            by (inl p) = subst (λ z. z < get_or active y 0) (sym (get_or_append_left left (now ∷ []) 0 x p)) (old.low x y p (omega (arith, l)) q)
            by (inr p) =
                let e : x ≡ length left = omega (arith, lt, p, length_push left now) in
                subst (λ z. z < get_or active y 0) (sym (ap (λ z. get_or (left ++ now ∷ []) z 0) e ∙ get_or_push left now 0 (length left) refl))
                (low.rises k y (omega (arith, l)) q)

-- at the end all are settled
pub all_settled :
    (m : LeadsShown) (h k : ℕ) (active : List ℕ) (firsts : List (Option ℕ)) (left : List ℕ) → length active ≤ k
    → AreSettled m h active k firsts left → AreFirstYields m h firsts left
all_settled m h k active firsts left end s = record {
  len = s.len;
  each = λ i lt. each i (get_or firsts i None) (s.each i lt);
  rises = s.rises;
  within = s.within;
  all = λ i pair remains. all i remains pair (get_or firsts i None) (s.each i pair.ordered);
}
  where
    none_waits : (i : ℕ) → StandsFrom active k i → ⊥
    none_waits i w = let a = w.late in let b = w.within in omega (arith, a, b, end)

    each : (i : ℕ) (first : Option ℕ) → IsYieldSettled (sums_shown m) h active k left i first
        → MatchOption first (IsPair (sums_shown m) (i, h) → Remains (sums_shown m) h i) (YieldsFirstTo (sums_shown m) h i)
    each i None (inl none) = λ pair. absurd (none pair)
    each i None (inr (inl w)) = absurd (none_waits i w)
    each i None (inr (inr q)) = λ pair. q.0
    each i (Some c) y = y

    all : (i : ℕ) → Remains (sums_shown m) h i → IsPair (sums_shown m) (i, h) → (first : Option ℕ) → IsYieldSettled (sums_shown m) h active k left i first → StandsFrom left 0 i
    all i remains pair None (inl none) = absurd (none pair)
    all i remains pair None (inr (inl w)) = absurd (none_waits i w)
    all i remains pair None (inr (inr q)) = q.1
    all i remains pair (Some c) y = absurd (remains c y.yields)

-- whose pair yields to none has its whole group among those that are left
pub group_left :
    (m : LeadsShown) (h i : ℕ) (firsts : List (Option ℕ)) (left : List ℕ) → AreFirstYields m h firsts left → Remains (sums_shown m) h i
    → HasGroup (sums_shown m) h i left
group_left m h i firsts left all remains = record {
  rises = all.rises;
  all = λ l g. all.all l g.pair (λ c y. remains c (record {
    pair = y.pair;
    divides = subst (λ k. DividesProperly (lcm_of (sums_shown m) (c, h)) k) g.same y.divides;
  }));
}

-- of the members of the group those before one that has not been met were met
pub group_before :
    {n : ℕ} (G : List (FormalSum n)) (h i k : ℕ) (cs : List ℕ) (P : ℕ → Type 0) → HasGroup G h i cs → k < length cs
    → ((x : ℕ) → x < k → P (get_or cs x 0) → ⊥) → (l : ℕ) → l < get_or cs k 0 → IsOfGroup G h i l → P l → ⊥
group_before G h i k cs P group lt none l below g p =
    let s = group.all l g in none s.at (earlier s) (subst P (sym s.is) p)
  where
    earlier : (s : StandsFrom cs 0 l) → s.at < k
    earlier s = go (cases_lt s.at k) (cases_lt k s.at)
      where
        go : (s.at < k) ⊎ (k ≤ s.at) → (k < s.at) ⊎ (s.at ≤ k) → s.at < k
        go (inl q) p = q
        go (inr q) (inl p) = absurd (let r = group.rises k s.at p s.within in let e = s.is in omega (arith, r, e, below))
        go (inr q) (inr p) =
            let e : s.at ≡ k = omega (arith, p, q) in
            absurd (let f = ap (λ z. get_or cs z 0) (sym e) ∙ s.is in omega (arith, f, below))

pub group_all :
    {n : ℕ} (G : List (FormalSum n)) (h i k : ℕ) (cs : List ℕ) (P : ℕ → Type 0) → HasGroup G h i cs → length cs ≤ k
    → ((x : ℕ) → x < k → P (get_or cs x 0) → ⊥) → (l : ℕ) → IsOfGroup G h i l → P l → ⊥
group_all G h i k cs P group end none l g p =
    let s = group.all l g in none s.at (let w = s.within in omega (arith, w, end)) (subst P (sym s.is) p)
