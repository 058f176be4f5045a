-- The pairs of the least degree stand first in a sorted queue
use Rattle.std.proofs.Common.{Equal, Less, List, [], ap, arith, cond, drop, get_or, inl, inr, length, nat_eq, refl, subst, suc, sym, take, zero}
use Rattle.std.proofs.Common.{ℕ, ◌++◌, ◌+◌, ◌<◌, ◌∙◌, ◌∷◌, ◌≡◌, ◌≤◌, ◌⊎◌}
use Rattle.std.specs.Ordering.{nat_cmp, ordering_then}
use Rattle.std.proofs.lemmas.Bool.{cases_lt}
use Rattle.std.proofs.lemmas.List.{drop_more, take-append-drop}
use Rattle.orders.proofs.Lexicographic.{nat_cmp-equal, nat_cmp-less, then_less}
use Rattle.formal_sums.specs.FormalSums.{Each, FormalSum}
use Rattle.bases.specs.Settings.{Setting}
use Rattle.term_lists.proofs.Scaling.{Each_at}
use Rattle.pair_criteria.specs.declared.pair.Pair.{Pair as CodePair}
use Rattle.basis_steps.specs.Criteria.{Skips, lcm_of}
use Rattle.basis_steps.specs.Pairs.{Pair}
use Rattle.basis_steps.specs.Queues.{IsSorted, compare_pairs, degree_of, number_of_degree, number_of_least_degree}
use Rattle.pair_updates.proofs.Degrees.{least_is, other_degree}
use Rattle.pair_updates.proofs.PairOrder.{degree_is}
use Rattle.pair_updates.proofs.PairLists.{pairs_drop}
use Rattle.pair_updates.specs.Pairs.{HasLcm, index_pair_of, pairs_of}
use Rattle.pair_updates.specs.Leads.{LeadsShown, setting_of_leads, sums_shown}

module _ {n : ℕ} (S : Setting n) (G : List (FormalSum n)) where
  pub no_less : (x y : Pair) → compare_pairs S G x y ≡ Less → degree_of S G x ≤ degree_of S G y
  no_less x y h = go (then_less (nat_cmp (degree_of S G x) (degree_of S G y)) _ h)
    where
      go : (nat_cmp (degree_of S G x) (degree_of S G y) ≡ Less) ⊎ ((nat_cmp (degree_of S G x) (degree_of S G y) ≡ Equal) × (ordering_then
          (S.compare (0, (lcm_of G x).1) (0, (lcm_of G y).1)) (ordering_then (nat_cmp x.1 y.1) (nat_cmp x.0 y.0)) ≡ Less)) → degree_of S G x ≤ degree_of S G y
      go (inl e) = (let l = nat_cmp-less (degree_of S G x) (degree_of S G y) e in omega (arith, l))
      go (inr e) = (let l = nat_cmp-equal (degree_of S G x) (degree_of S G y) e.0 in omega (arith, l))

  none_of_degree : (d : ℕ) (x : Pair) (ys : List Pair) → d < degree_of S G x → Each (λ y. compare_pairs S G x y ≡ Less) ys → number_of_degree S G d ys ≡ 0
  none_of_degree d x [] l h = refl
  none_of_degree d x (y ∷ ys) l h =
      let above : degree_of S G x ≤ degree_of S G y = no_less x y h.0 in
      let one : ◌≡◌ {A = ℕ} (cond (nat_eq (degree_of S G y) d) 1 0) 0 = other_degree (degree_of S G y) d (λ e. omega (arith, e, l, above)) in
      omega (arith, one, none_of_degree d x ys l h.1)

  none_behind : (d : ℕ) (x : Pair) (ys : List Pair) → d < degree_of S G x → IsSorted S G (x ∷ ys) → number_of_degree S G d (x ∷ ys) ≡ 0
  none_behind d x ys l h =
      let one : ◌≡◌ {A = ℕ} (cond (nat_eq (degree_of S G x) d) 1 0) 0 = other_degree (degree_of S G x) d (λ e. omega (arith, e, l)) in
      omega (arith, one, none_of_degree d x ys l h.0)

  pub sorted_behind : (k : ℕ) (xs : List Pair) → IsSorted S G xs → IsSorted S G (drop k xs)
  sorted_behind zero xs h = h
  sorted_behind (suc k) [] h = h
  sorted_behind (suc k) (x ∷ xs) h = sorted_behind k xs h.1

  number_append : (d : ℕ) (xs ys : List Pair) → number_of_degree S G d (xs ++ ys) ≡ number_of_degree S G d xs + number_of_degree S G d ys
  number_append d [] ys = omega arith
  number_append d (x ∷ xs) ys = omega (arith, number_append d xs ys)

  -- no pair is of a lower degree than the first
  first_least : (xs : List CodePair) (k : ℕ) (first x : CodePair) → IsSorted S G (pairs_of xs) → k < length xs → first ≡ get_or xs 0 first
      → x ≡ get_or xs k x → degree_of S G (index_pair_of first) ≤ degree_of S G (index_pair_of x)
  first_least [] k first x h l e f = absurd (omega (arith, l))
  first_least (y ∷ xs) zero first x h l e f = (let same : first ≡ x = e ∙ sym f in omega (arith, ap (λ (z : CodePair). degree_of S G (index_pair_of z)) same))
  first_least (y ∷ xs) (suc k) first x h l e f = omega (arith, at xs k h.0 (omega (arith, l)) f, ap (λ (z : CodePair). degree_of S G (index_pair_of z)) e)
    where
      at : (xs : List CodePair) (k : ℕ) → Each (λ z. compare_pairs S G (index_pair_of y) z ≡ Less) (pairs_of xs) → k < length xs → x ≡ get_or xs k x
          → degree_of S G (index_pair_of y) ≤ degree_of S G (index_pair_of x)
      at [] k h l e = absurd (omega (arith, l))
      at (z ∷ xs) zero h l e = subst (λ (w : CodePair). degree_of S G (index_pair_of y) ≤ degree_of S G (index_pair_of w)) (sym e) (no_less (index_pair_of y) (index_pair_of z) h.0)
      at (z ∷ xs) (suc k) h l e = at xs k h.1 (omega (arith, l)) e

  -- what is left after pairs were skipped is sorted
  each_without : (P : Pair → Type 0) (front back : List Pair) (x : Pair) → Each P (front ++ (x ∷ back)) → Each P (front ++ back)
  each_without P [] back x h = h.1
  each_without P (y ∷ front) back x h = (h.0, each_without P front back x h.1)

  pub sorted_without : (front back : List Pair) (x : Pair) → IsSorted S G (front ++ (x ∷ back)) → IsSorted S G (front ++ back)
  sorted_without [] back x h = h.1
  sorted_without (y ∷ front) back x h = (each_without (λ z. compare_pairs S G y z ≡ Less) front back x h.0, sorted_without front back x h.1)

  pub sorted_left : (out : List (Pair × ℕ)) (queue skipped left : List Pair) → Skips S G out queue skipped left → IsSorted S G queue → IsSorted S G left
  sorted_left out queue [] left d h = subst (IsSorted S G) (sym d) h
  sorted_left out queue (y ∷ skipped) left (front, back, e, none, applies, rest) h =
      sorted_left out (front ++ back) skipped left rest (sorted_without front back y (subst (IsSorted S G) e h))

-- where one of another degree follows, those before it are all of the least degree
pub least_before :
    (m : LeadsShown) (xs : List CodePair) (k least : ℕ) (first x : CodePair)
    → Each (HasLcm m) xs → IsSorted (setting_of_leads m.variables m) (sums_shown m) (pairs_of xs)
    → first ≡ get_or xs 0 first → least ≡ first.lcm.monomial.degree
    → k < length xs → x ≡ get_or xs k x → (x.lcm.monomial.degree ≡ least → ⊥)
    → number_of_degree (setting_of_leads m.variables m) (sums_shown m) least (take k (pairs_of xs)) ≡ k
    → k ≡ number_of_least_degree (setting_of_leads m.variables m) (sums_shown m) (pairs_of xs)
least_before m xs k least first x h sorted is e l at other count =
    let S = setting_of_leads m.variables m in
    let G = sums_shown m in
    let P : List Pair = pairs_of xs in
    let some : 0 < length xs = omega (arith, l) in
    let first_is : degree_of S G (index_pair_of first) ≡ first.lcm.monomial.degree = degree_is m first (Each_at (HasLcm m) xs 0 first h some is) in
    let x_is : degree_of S G (index_pair_of x) ≡ x.lcm.monomial.degree = degree_is m x (Each_at (HasLcm m) xs k x h l at) in
    let least_of : degree_of S G (index_pair_of first) ≤ degree_of S G (index_pair_of x) = first_least S G xs k first x sorted l is at in
    let above : least < degree_of S G (index_pair_of x) =
    above_of least (degree_of S G (index_pair_of x)) (omega (arith, first_is, e, least_of)) (λ q. other (sym x_is ∙ sym q)) in
    let behind : drop k P ≡ index_pair_of x ∷ pairs_of (drop (k + 1) xs) =
    sym (pairs_drop k xs) ∙ ap pairs_of (drop_more xs k x l ∙ ap (λ (z : CodePair). z ∷ drop (k + 1) xs) (sym at)) in
    let none : number_of_degree S G least (drop k P) ≡ 0 =
    ap (number_of_degree S G least) behind ∙ none_behind S G least (index_pair_of x) (pairs_of (drop (k + 1) xs)) above
    (subst (IsSorted S G) behind (sorted_behind S G k P sorted)) in
    let whole : number_of_degree S G least P ≡ number_of_degree S G least (take k P) + number_of_degree S G least (drop k P) =
    ap (number_of_degree S G least) (sym (take-append-drop k P)) ∙ number_append S G least (take k P) (drop k P) in
    let all : number_of_degree S G least P ≡ number_of_least_degree S G P = least_is m xs first least some is h e in
    omega (arith, none, whole, all, count)
  where
    above_of : (a b : ℕ) → a ≤ b → (a ≡ b → ⊥) → a < b
    above_of a b l n = go (cases_lt a b)
      where
        go : (a < b) ⊎ (b ≤ a) → a < b
        go (inl h) = h
        go (inr h) = absurd (n (omega (arith, l, h)))
