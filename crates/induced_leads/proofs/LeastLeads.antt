-- The choice of the least monomials, and the least leads of the pairs
use Rattle.std.specs.Prelude.{Contains}
use Rattle.std.proofs.Common.{Equal, Greater, Less, List, Ordering, [], ap, ap₂, arith, get_or, inl, inr, length, map, refl, reverse, subst, subst₂, suc, sym, zero, ℕ, ◌++◌, ◌+◌, ◌<◌, ◌≤◌, ◌∙◌, ◌∷◌, ◌≡◌, ◌⊎◌}
use mathlib.Core.List.{reverse-cons}
use Rattle.std.proofs.lemmas.Bool.{cases_lt}
use Rattle.std.proofs.lemmas.Cmp.{nat_cmp_total, tied_itself}
use Rattle.std.proofs.lemmas.Bool.Decides.{nat_tests}
use Rattle.std.proofs.lemmas.List.{get_or_default, length-map}
use Rattle.std.specs.Ordering.{nat_cmp, ordering_reverse, ordering_then}
use Rattle.monomials.proofs.Monomials.{times-unit}
use Rattle.monomials.specs.Exponents.{Divides, Exponents, exponents_of, lcm, quotient, times, unit}
use Rattle.formal_sums.proofs.Combining.{Each_map}
use Rattle.formal_sums.proofs.WeightedSums.{Each_append}
use Rattle.formal_sums.specs.FormalSums.{Each}
use Rattle.orders.proofs.Lexicographic.{lex_order}
use Rattle.orders.proofs.Positions.{pot_order}
use Rattle.orders.specs.KeyOrders.{KeyDivides, pot}
use Rattle.orders.specs.MonomialOrders.{lex}
use Rattle.bases.specs.Leads.{head_key, leads}
use Rattle.syzygy_laws.specs.Syzygies.{pair_lead_key}
use Rattle.monomial_orders.specs.Kept.{IsWeighed, Monomial}
use Rattle.term_lists.specs.Vectors.{key_of, sum_of, sums_of}
use Rattle.term_lists.specs.declared.key.Key.{Key as CodeKey}
use Rattle.module_vectors.specs.Trails.{lead_at}
use Rattle.vector_division.proofs.Members.{sums_at}
use Rattle.induced_leads.specs.Pairs.{AreMinimalMonomials, AreLeastSoFar, ArePairLeadsTo, ArePairMonomials, KeysFall, IsBefore, RisesLex}
use Rattle.induced_leads.specs.PairLeads.{ArePairLeads, IsPairKey, key_at}
use Rattle.induced_leads.proofs.Pushing.{get_or-map}

-- ---- what stands in a list
pub contains_left : {X : Type 0} (xs ys : List X) (x : X) → Contains xs x → Contains (xs ++ ys) x
contains_left [] ys x (i, lt, e) = absurd (omega arith)
contains_left (y ∷ xs) ys x (zero, lt, e) = (0, omega arith, e)
contains_left (y ∷ xs) ys x (suc i, lt, e) = let r = contains_left xs ys x (i, omega arith, e) in (suc r.0, (let l = r.1 in omega (arith, l)), r.2)

pub contains_right : {X : Type 0} (xs ys : List X) (x : X) → Contains ys x → Contains (xs ++ ys) x
contains_right [] ys x c = c
contains_right (y ∷ xs) ys x c = let r = contains_right xs ys x c in (suc r.0, (let l = r.1 in omega (arith, l)), r.2)

pub contains_one : {X : Type 0} (x : X) → Contains (x ∷ []) x
contains_one x = (0, omega arith, refl)

pub contains_cases : {X : Type 0} (xs ys : List X) (x : X) → Contains (xs ++ ys) x → Contains xs x ⊎ Contains ys x
contains_cases [] ys x c = inr c
contains_cases (y ∷ xs) ys x (zero, lt, e) = inl (0, omega arith, e)
contains_cases (y ∷ xs) ys x (suc i, lt, e) = go (contains_cases xs ys x (i, omega arith, e))
  where
    go : Contains xs x ⊎ Contains ys x → Contains (y ∷ xs) x ⊎ Contains ys x
    go (inl c) = inl (suc c.0, (let l = c.1 in omega (arith, l)), c.2)
    go (inr c) = inr c

pub contains_only : {X : Type 0} (y x : X) → Contains (y ∷ []) x → y ≡ x
contains_only y x (zero, lt, e) = e
contains_only y x (suc i, lt, e) = absurd (omega arith)

contains_map : {X Y : Type 0} (f : X → Y) (xs : List X) (x : X) → Contains xs x → Contains (map f xs) (f x)
contains_map f [] x (i, lt, e) = absurd (omega arith)
contains_map f (y ∷ xs) x (zero, lt, e) = (0, omega arith, ap f e)
contains_map f (y ∷ xs) x (suc i, lt, e) = let r = contains_map f xs x (i, omega arith, e) in (suc r.0, (let l = r.1 in omega (arith, l)), r.2)

contains_reverse : {X : Type 0} (xs : List X) (x : X) → Contains xs x → Contains (reverse xs) x
contains_reverse [] x (i, lt, e) = absurd (omega arith)
contains_reverse (y ∷ xs) x (zero, lt, e) = subst₂ Contains (sym (reverse-cons y xs)) e (contains_right (reverse xs) (y ∷ []) y (contains_one y))
contains_reverse (y ∷ xs) x (suc i, lt, e) = subst (λ z. Contains z x) (sym (reverse-cons y xs)) (contains_left (reverse xs) (y ∷ []) x (contains_reverse xs x (i, omega arith, e)))

reverse_contains : {X : Type 0} (xs : List X) (x : X) → Contains (reverse xs) x → Contains xs x
reverse_contains [] x c = c
reverse_contains (y ∷ xs) x c = go (λ d. reverse_contains xs x d) (contains_cases (reverse xs) (y ∷ []) x (subst (λ z. Contains z x) (reverse-cons y xs) c))
  where
    go : (Contains (reverse xs) x → Contains xs x) → Contains (reverse xs) x ⊎ Contains (y ∷ []) x → Contains (y ∷ xs) x
    go f (inl d) = let r = f d in (suc r.0, (let l = r.1 in omega (arith, l)), r.2)
    go f (inr d) = (0, omega arith, contains_only y x d)

pub each_all : {X : Type 0} (P : X → Type 0) (xs : List X) → ((x : X) → Contains xs x → P x) → Each P xs
each_all P [] h = tt
each_all P (x ∷ xs) h = (h x (0, omega arith, refl), each_all P xs (λ y c. h y (suc c.0, (let l = c.1 in omega (arith, l)), c.2)))

pub each_at : {X : Type 0} (P : X → Type 0) (xs : List X) (x : X) → Each P xs → Contains xs x → P x
each_at P [] x h (i, lt, e) = absurd (omega arith)
each_at P (y ∷ xs) x h (zero, lt, e) = subst P e h.0
each_at P (y ∷ xs) x h (suc i, lt, e) = each_at P xs x h.1 (i, omega arith, e)

divides_itself : {n : ℕ} (v : Exponents n) → Divides v v
divides_itself {n} v = (unit n, times-unit v)

-- ---- the choice of the least
module _ (n : ℕ) where
  abbrev E : Monomial → Exponents n
  E m = exponents_of n m.exponents

  pub least_start : (ms : List Monomial) → RisesLex n ms → AreLeastSoFar n [] ms []
  least_start ms h = record { inside = λ m c. c; covers = λ m c. absurd (none m c); apart = tt; up_to = tt; rises = h }
    where
      none : (m : Monomial) → Contains {X = Monomial} [] m → ⊥
      none m (i, lt, e) = omega arith

  pub least_skip :
      (done rest kept : List Monomial) (x : Monomial) → AreLeastSoFar n done (x ∷ rest) kept
      → (k : Monomial) → Contains kept k → Divides (E k) (E x) → AreLeastSoFar n (done ++ x ∷ []) rest kept
  least_skip done rest kept x h k c d = record {
    inside = λ m q. contains_left done (x ∷ []) m (h.inside m q);
    covers = λ m q. go m (contains_cases done (x ∷ []) m q);
    apart = h.apart;
    up_to = Each_map _ _ kept (λ l q. q.1) h.up_to;
    rises = h.rises.1;
  }
    where
      go : (m : Monomial) → Contains done m ⊎ Contains (x ∷ []) m → (l : Monomial) × Contains kept l × Divides (E l) (E m)
      go m (inl q) = h.covers m q
      go m (inr q) = (k, c, subst (λ z. Divides (E k) (E z)) (contains_only x m q) d)

  apart_push :
      (kept : List Monomial) (x : Monomial) → AreMinimalMonomials n kept
      → Each (λ k. (lex (E k) (E x) ≡ Less) × (Divides (E k) (E x) → ⊥)) kept → AreMinimalMonomials n (kept ++ x ∷ [])
  apart_push [] x h e = (tt, tt)
  apart_push (k ∷ kept) x h e = (Each_append _ kept (x ∷ []) h.0 (e.0, tt), apart_push kept x h.1 e.1)

  less_of : (v w : Exponents n) → (lex v w ≡ Greater → ⊥) → (v ≡ w → ⊥) → lex v w ≡ Less
  less_of v w up ne = go (lex v w) refl
    where
      go : (o : Ordering) → lex v w ≡ o → lex v w ≡ Less
      go Less e = e
      go Equal e = absurd (ne ((lex_order n).exact v w e))
      go Greater e = absurd (up e)

  pub least_push :
      (done rest kept : List Monomial) (x : Monomial) → AreLeastSoFar n done (x ∷ rest) kept
      → ((k : Monomial) → Contains kept k → Divides (E k) (E x) → ⊥) → AreLeastSoFar n (done ++ x ∷ []) rest (kept ++ x ∷ [])
  least_push done rest kept x h free = record {
    inside = λ m q. both m (contains_cases kept (x ∷ []) m q);
    covers = λ m q. go m (contains_cases done (x ∷ []) m q);
    apart = apart_push kept x h.apart (below kept (λ k c. c) h.up_to);
    up_to = Each_append _ kept (x ∷ []) (Each_map _ _ kept (λ l q. q.1) h.up_to) (h.rises.0, tt);
    rises = h.rises.1;
  }
    where
      both : (m : Monomial) → Contains kept m ⊎ Contains (x ∷ []) m → Contains (done ++ x ∷ []) m
      both m (inl q) = contains_left done (x ∷ []) m (h.inside m q)
      both m (inr q) = contains_right done (x ∷ []) m q

      go : (m : Monomial) → Contains done m ⊎ Contains (x ∷ []) m → (l : Monomial) × Contains (kept ++ x ∷ []) l × Divides (E l) (E m)
      go m (inl q) = let r = h.covers m q in (r.0, contains_left kept (x ∷ []) r.0 r.1, r.2)
      go m (inr q) = (x, contains_right kept (x ∷ []) x (contains_one x), subst (λ z. Divides (E x) (E z)) (contains_only x m q) (divides_itself (E x)))

      below :
          (ks : List Monomial) → ((k : Monomial) → Contains ks k → Contains kept k)
          → Each (λ k. Each (λ m. lex (E k) (E m) ≡ Greater → ⊥) (x ∷ rest)) ks
          → Each (λ k. (lex (E k) (E x) ≡ Less) × (Divides (E k) (E x) → ⊥)) ks
      below [] sub u = tt
      below (k ∷ ks) sub u =
          let here = free k (sub k (0, omega arith, refl)) in
          ((less_of (E k) (E x) u.0.0 (λ e. here (subst (Divides (E k)) e (divides_itself (E k)))), here), below ks (λ l c. sub l (suc c.0, (let q = c.1 in omega (arith, q)), c.2)) u.1)

  -- ---- keys in the order of columns
  falls_append : (xs ys : List CodeKey) → KeysFall n xs → KeysFall n ys → Each (λ k. Each (IsBefore n k) ys) xs → KeysFall n (xs ++ ys)
  falls_append [] ys h g b = g
  falls_append (x ∷ xs) ys h g b = (Each_append _ xs ys h.0 b.0, falls_append xs ys h.1 g b.1)

  falls_at : (ks : List CodeKey) (a b : ℕ) (d : CodeKey) → KeysFall n ks → a < b → b < length ks → IsBefore n (get_or ks a d) (get_or ks b d)
  falls_at [] a b d h lt le = absurd (omega arith)
  falls_at (k ∷ ks) a zero d h lt le = absurd (omega arith)
  falls_at (k ∷ ks) zero (suc b) d h lt le = each_at (IsBefore n k) ks (get_or ks b d) h.0 (b, omega arith, get_or_default ks b (get_or ks b d) d (omega arith))
  falls_at (k ∷ ks) (suc a) (suc b) d h lt le = falls_at ks a b d h.1 (omega arith) (omega arith)

  -- the monomials of one position, the lex-greatest first
  abbrev key_of_monomial : ℕ → Monomial → CodeKey
  key_of_monomial i m = record { position = i; monomial = m }

  greater_of : (v w : Exponents n) → lex v w ≡ Less → lex w v ≡ Greater
  greater_of v w e = (lex_order n).total.antisymm w v ∙ ap ordering_reverse e

  tied : (i : ℕ) → nat_cmp i i ≡ Equal
  tied i = tied_itself nat_cmp_total i

  before_of : (i : ℕ) (a b : Monomial) → lex (E a) (E b) ≡ Less → (Divides (E a) (E b) → ⊥) → IsBefore n (key_of_monomial i b) (key_of_monomial i a)
  before_of i a b e nd = record {
    greater = ap (λ o. ordering_then o (lex (E b) (E a))) (tied i) ∙ greater_of (E a) (E b) e;
    free = λ d. (pot_order 0 lex (lex_order n)).not_below d.0 (i, E b) (ap (λ o. ordering_then o (lex (times d.0 (E b)) (E b))) (tied i) ∙ ap (λ x. lex x (E b)) (ap (λ z. z.1) d.1) ∙ e);
    not_free = λ d. nd (d.0, ap (λ z. z.1) d.1);
  }

  each_of_map : {X Y : Type 0} (P : Y → Type 0) (f : X → Y) (xs : List X) → Each (λ x. P (f x)) xs → Each P (map f xs)
  each_of_map P f [] h = tt
  each_of_map P f (x ∷ xs) h = (h.0, each_of_map P f xs h.1)

  map_append : {X Y : Type 0} (f : X → Y) (xs ys : List X) → map f (xs ++ ys) ≡ map f xs ++ map f ys
  map_append f [] ys = refl
  map_append f (x ∷ xs) ys = ap (λ z. f x ∷ z) (map_append f xs ys)

  falls_reversed : (i : ℕ) (kept : List Monomial) → AreMinimalMonomials n kept → KeysFall n (map (key_of_monomial i) (reverse kept))
  falls_reversed i [] h = tt
  falls_reversed i (k ∷ ks) h =
      subst (KeysFall n) (sym (ap (map (key_of_monomial i)) (reverse-cons k ks) ∙ map_append (key_of_monomial i) (reverse ks) (k ∷ [])))
      (falls_append (map (key_of_monomial i) (reverse ks)) (key_of_monomial i k ∷ []) (falls_reversed i ks h.1) (tt, tt)
      (each_of_map (λ l. Each (IsBefore n l) (key_of_monomial i k ∷ [])) (key_of_monomial i) (reverse ks)
      (each_all _ (reverse ks) (λ l c. let r = each_at _ ks l h.0 (reverse_contains ks l c) in (before_of i k l r.0 r.1, tt)))))

  -- ---- the leads of the pairs
  module _ (ws : List ℕ) (cols : List (List (CodeKey × ℕ))) where
    count : length (sums_of n cols) ≡ length cols
    count = length-map cols (λ v. sum_of n v)

    lead_is : (i : ℕ) → leads (sums_of n cols) i ≡ lead_at n cols i
    lead_is i = ap head_key (sums_at n cols i)

    pair_key_is : (a b : ℕ) → pair_lead_key (sums_of n cols) a b ≡ (a, quotient (lcm (lead_at n cols a).1 (lead_at n cols b).1) (lead_at n cols a).1)
    pair_key_is a b = ap₂ (λ x y. (a, quotient (lcm x.1 y.1) x.1)) (lead_is a) (lead_is b)

    pub pairs_none : ArePairLeadsTo n ws cols 0 []
    pairs_none = record { each = tt; covers = λ a b lt. absurd (omega (arith, lt)); falls = tt }

    pub pairs_next :
        (i : ℕ) (keys : List CodeKey) (ms kept : List Monomial) → ArePairLeadsTo n ws cols i keys → ArePairMonomials n ws cols i (length cols) ms
        → AreLeastSoFar n ms [] kept → ArePairLeadsTo n ws cols (i + 1) (keys ++ map (λ m. record { position = i; monomial = m }) (reverse kept))
    pairs_next i keys ms kept h pm least = record {
      each = Each_append _ keys _ (Each_map _ _ keys (λ k q. (q.0, (let l = q.1 in omega (arith, l)), q.2)) h.each) (each_of_map _ (key_of_monomial i) (reverse kept) (each_all _ (reverse kept) (λ m c. new m (reverse_contains kept m c))));
      covers = λ a b lt ab hb e. go a b (cases_lt a i) lt ab hb e;
      falls = falls_append keys _ h.falls (falls_reversed i kept least.apart) (Each_map _ _ keys (λ k q. each_of_map (IsBefore n k) (key_of_monomial i) (reverse kept) (each_all _ (reverse kept) (λ m c. apart k m q.1))) h.each);
    }
      where
        new : (m : Monomial) → Contains kept m → IsPairKey (sums_of n cols) (i, E m) × (i < i + 1) × IsWeighed n ws m
        new m c =
            let r = pm.each m (least.inside m c) in (
              record {
                later = r.0;
                after = r.1;
                inside = (let l = r.2 in omega (arith, l, count));
                position = ap (λ z. z.0) (lead_is i) ∙ r.3.position ∙ sym (ap (λ z. z.0) (lead_is r.0));
                is = ap (λ x. (i, x)) r.3.quotient_is ∙ sym (pair_key_is i r.0);
              },
              omega arith,
              r.3.weighed,
            )

        apart : (k : CodeKey) (m : Monomial) → k.position < i → IsBefore n k (record { position = i; monomial = m })
        apart k m lt = record {
          greater = ap (λ o. ordering_then o (lex (exponents_of n k.monomial.exponents) (E m))) (greater k.position i lt);
          free = λ d. let e = ap (λ z. z.0) d.1 in omega (arith, e, lt);
          not_free = λ d. let e = ap (λ z. z.0) d.1 in omega (arith, e, lt);
        }
          where
            greater : (a b : ℕ) → a < b → nat_cmp b a ≡ Greater
            greater a b lt = grind (arith, nat_tests)

        go :
            (a b : ℕ) → (a < i) ⊎ (i ≤ a) → a < i + 1 → a < b → b < length cols → (lead_at n cols a).0 ≡ (lead_at n cols b).0
            → (k : CodeKey) × Contains (keys ++ map (λ m. record { position = i; monomial = m }) (reverse kept)) k × KeyDivides (key_of n k) (pair_lead_key (sums_of n cols) a b)
        go a b (inl l) lt ab hb e = let r = h.covers a b l ab hb e in (r.0, contains_left keys _ r.0 r.1, r.2)
        go a b (inr g) lt ab hb e =
            let same : a ≡ i = omega (arith, lt, g) in
            let m = pm.all b (subst (λ z. z < b) same ab) hb (ap (λ z. (lead_at n cols z).0) (sym same) ∙ e) in
            let k = least.covers m.0 m.1 in (
              record { position = i; monomial = k.0 },
              contains_right keys _ _ (contains_map (key_of_monomial i) (reverse kept) k.0 (contains_reverse kept k.0 k.1)),
              subst (KeyDivides (i, E k.0)) (ap (λ z. (i, z)) m.2.quotient_is ∙ sym (pair_key_is i b) ∙ ap (λ z. pair_lead_key (sums_of n cols) z b) (sym same)) (k.2.0, ap (λ z. (i, z)) k.2.1),
            )

    pub pairs_all : (keys : List CodeKey) → ArePairLeadsTo n ws cols (length cols) keys → ArePairLeads (sums_of n cols) (map (key_of n) keys)
    pairs_all keys h = record {
      each = λ c lt. let l = known c lt in subst (IsPairKey (sums_of n cols)) (sym (key_is c l)) (each_at _ keys (get_or keys c none) h.each (c, l, get_or_default keys c (get_or keys c none) none l)).0;
      covers = λ i j lt hj e.
          let hj' : j < length cols = omega (arith, hj, count) in
          let r = h.covers i j (omega (arith, lt, hj')) lt hj' (sym (ap (λ z. z.0) (lead_is i)) ∙ e ∙ ap (λ z. z.0) (lead_is j)) in
          (r.1.0, (let l = r.1.1 in omega (arith, l, length-map keys (key_of n))), subst (λ z. KeyDivides z (pair_lead_key (sums_of n cols) i j)) (sym (key_is r.1.0 r.1.1 ∙ ap (key_of n) (get_or_default keys r.1.0 none r.0 r.1.1 ∙ r.1.2))) r.2);
      apart = λ c d hc hd ne div. apart c d (known c hc) (known d hd) (cases_lt c d) ne (subst₂ KeyDivides (key_is d (known d hd)) (key_is c (known c hc)) div);
      sorted = λ c d lt hd. ap₂ (pot lex) (key_is c (let l = known d hd in omega (arith, l, lt))) (key_is d (known d hd)) ∙ (falls_at keys c d none h.falls lt (known d hd)).greater;
    }
      where
        none : CodeKey
        none = record { position = 0; monomial = record { exponents = []; degree = 0 } }

        known : (c : ℕ) → c < length (map (key_of n) keys) → c < length keys
        known c lt = omega (arith, lt, length-map keys (key_of n))

        key_is : (c : ℕ) → c < length keys → key_at (map (key_of n) keys) c ≡ key_of n (get_or keys c none)
        key_is c lt = get_or-map (key_of n) keys c none _ lt

        apart :
            (c d : ℕ) → c < length keys → d < length keys → (c < d) ⊎ (d ≤ c) → (c ≡ d → ⊥)
            → KeyDivides (key_of n (get_or keys d none)) (key_of n (get_or keys c none)) → ⊥
        apart c d hc hd (inl lt) ne div = (falls_at keys c d none h.falls lt hd).not_free div
        apart c d hc hd (inr le) ne div = go (cases_lt d c)
          where
            go : (d < c) ⊎ (c ≤ d) → ⊥
            go (inl l) = (falls_at keys d c none h.falls l hc).free div
            go (inr g) = ne (omega (arith, le, g))
