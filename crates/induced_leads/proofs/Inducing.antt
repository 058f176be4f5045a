-- Comparisons of keys above maps
use Rattle.std.proofs.Common.{Equal, Greater, Less, List, Ordering, [], ap, ap₂, arith, get_or, length, refl, subst, suc, sym, zero, ℕ, ◌++◌, ◌<◌, ◌∙◌, ◌∷◌, ◌≡◌}
use Rattle.std.proofs.lemmas.Cmp.{nat_cmp_total, ranked, tied_itself}
use Rattle.std.specs.Ordering.{nat_cmp, ordering_then}
use Rattle.monomials.proofs.Monomials.{times_comm}
use Rattle.monomials.specs.Exponents.{Exponents, exponents_of, unit}
use Rattle.formal_sums.specs.FormalSums.{FormalSum, Key, shift}
use Rattle.orders.specs.KeyOrders.{induced}
use Rattle.bases.specs.Leads.{leads}
use Rattle.monomial_orders.proofs.Comparing.{then_keeps}
use Rattle.monomial_orders.specs.Comparisons.{comparison, key_comparison}
use Rattle.monomial_orders.specs.Laws.{key_comparison_order}
use Rattle.monomial_orders.specs.declared.order.ModOrder.{ModOrder}
use Rattle.monomial_orders.specs.declared.order.ModOrder.TheVariants.{Pot, Top}
use Rattle.monomial_orders.specs.declared.order.Order.{Order}
use Rattle.term_lists.specs.Rings.{ring_comparison, variables}
use Rattle.term_lists.specs.Vectors.{IsMonomialOver, key_of}
use Rattle.term_lists.specs.declared.key.Key.{Key as CodeKey}
use Rattle.resolution_maps.specs.Inducing.{Tower, induced_through, maps_of, tower_comparison}
use Rattle.induced_leads.specs.Heads.{IsHead, summed}
use Rattle.induced_leads.specs.Ways.{bottom, by_way, way}
use Rattle.induced_leads.specs.declared.head.Head.{Head}
use Rattle.induced_leads.proofs.Heading.{bottom_key}
use Rattle.induced_leads.proofs.Summing.{exponents-summed}

then-equal : (o : Ordering) → ordering_then o Equal ≡ o
then-equal Less = refl
then-equal Equal = refl
then-equal Greater = refl

then_assoc : (a b c : Ordering) → ordering_then (ordering_then a b) c ≡ ordering_then a (ordering_then b c)
then_assoc Less b c = refl
then_assoc Equal b c = refl
then_assoc Greater b c = refl

tied : (a : ℕ) → nat_cmp a a ≡ Equal
tied a = tied_itself nat_cmp_total a

-- first by where the leads take the keys, then by the ways
pub through_is :
    {n : ℕ} (compare : Key n → Key n → Ordering) (maps : List (List (FormalSum n))) (k l : Key n)
    → induced_through compare maps k l ≡ ordering_then (compare (bottom maps k) (bottom maps l)) (by_way (way maps k.0) (way maps l.0))
through_is compare [] k l = sym (then-equal (compare k l))
through_is {n} compare (F ∷ maps) k l =
    through_is (induced compare (leads F)) maps k l
    ∙ then_assoc (compare (bottom (F ∷ maps) k) (bottom (F ∷ maps) l)) (nat_cmp (bottom maps l).0 (bottom maps k).0) (by_way (way maps k.0) (way maps l.0))
    ∙ ap₂ (λ x y. ordering_then (compare (bottom (F ∷ maps) k) (bottom (F ∷ maps) l)) (ordering_then (nat_cmp x y) (by_way (way maps k.0) (way maps l.0)))) (ap (λ z. z.0) (bottom_key maps l)) (ap (λ z. z.0) (bottom_key maps k))

-- ---- ways
pub by_way_itself : (xs : List ℕ) → by_way xs xs ≡ Equal
by_way_itself [] = refl
by_way_itself (x ∷ xs) = rw (tied x) (by_way_itself xs)

pub by_way_same :
    (xs ys : List ℕ) → length xs ≡ length ys → ((j : ℕ) → j < length xs → get_or xs j 0 ≡ get_or ys j 0)
    → by_way xs ys ≡ Equal
by_way_same [] ys e h = refl
by_way_same (x ∷ xs) [] e h = refl
by_way_same (x ∷ xs) (y ∷ ys) e h =
    let d : x ≡ y = h 0 (omega arith) in
    let t : nat_cmp y x ≡ Equal = ap (nat_cmp y) d ∙ tied y in
    rw t (by_way_same xs ys (omega arith) (λ j lt. h (suc j) (omega arith)))

pub by_way_at :
    (xs ys : List ℕ) (k : ℕ) → length xs ≡ length ys → k < length xs
    → ((j : ℕ) → j < k → get_or xs j 0 ≡ get_or ys j 0) → (get_or xs k 0 ≡ get_or ys k 0 → ⊥)
    → by_way xs ys ≡ nat_cmp (get_or ys k 0) (get_or xs k 0)
by_way_at [] ys k e lt h ne = absurd (omega arith)
by_way_at (x ∷ xs) [] k e lt h ne = absurd (omega arith)
by_way_at (x ∷ xs) (y ∷ ys) zero e lt h ne = then_keeps (nat_cmp y x) (by_way xs ys) (λ q. ne (sym (ranked y x Equal (sym q))))
by_way_at (x ∷ xs) (y ∷ ys) (suc k) e lt h ne =
    let d : x ≡ y = h 0 (omega arith) in
    let t : nat_cmp y x ≡ Equal = ap (nat_cmp y) d ∙ tied y in
    rw t (by_way_at xs ys k (omega arith) (omega arith) (λ j l. h (suc j) (omega arith)) ne)

by_way_end : (xs ys : List ℕ) (i j : ℕ) → length xs ≡ length ys → by_way (xs ++ i ∷ []) (ys ++ j ∷ []) ≡ ordering_then (by_way xs ys) (nat_cmp j i)
by_way_end [] [] i j e = then-equal (nat_cmp j i)
by_way_end [] (y ∷ ys) i j e = absurd (omega arith)
by_way_end (x ∷ xs) [] i j e = absurd (omega arith)
by_way_end (x ∷ xs) (y ∷ ys) i j e = ap (ordering_then (nat_cmp y x)) (by_way_end xs ys i j (omega arith)) ∙ sym (then_assoc (nat_cmp y x) (by_way xs ys) (nat_cmp j i))

length-way : {n : ℕ} (maps : List (List (FormalSum n))) (i : ℕ) → length (way maps i) ≡ length maps
length-way [] i = refl
length-way (F ∷ maps) i = ap suc (length-way maps i)

length-end : (xs : List ℕ) (i : ℕ) → length (xs ++ i ∷ []) ≡ suc (length xs)
length-end [] i = refl
length-end (x ∷ xs) i = ap suc (length-end xs i)

module _ (t : Tower) where
  abbrev n : ℕ
  n = variables t.ring

  abbrev IsHeadOf : ℕ → Head → Type 0
  IsHeadOf i h = IsHead (variables t.ring) t.ring.weights t.maps i h

  pub same_ways : (i j : ℕ) (left right : Head) → IsHeadOf i left → IsHeadOf j right → length left.way.items ≡ length right.way.items
  same_ways i j left right l r =
      let a = ap length l.way_is in
      let b = ap length r.way_is in
      let c = length-way (maps_of n t.maps) i in
      let d = length-way (maps_of n t.maps) j in
      omega (arith, a, b, c, d, length-end left.way.items i, length-end right.way.items j)

  at_bottom :
      (a : CodeKey) (h : Head) → IsMonomialOver t.ring a.monomial → IsHeadOf a.position h
      → bottom (maps_of n t.maps) (key_of n a) ≡ (h.position, exponents_of n (summed a.monomial.exponents h.exponents.items))
  at_bottom a h over head =
      bottom_key (maps_of n t.maps) (key_of n a)
      ∙ ap (shift (exponents_of n a.monomial.exponents)) head.at
      ∙ ap (λ x. (h.position, x)) (sym (exponents-summed n a.monomial.exponents h.exponents.items over.variables))

  -- the comparison of two keys by their heads
  pub compared :
      (a b : CodeKey) (left right : Head)
      → IsMonomialOver t.ring a.monomial → IsMonomialOver t.ring b.monomial → IsHeadOf a.position left → IsHeadOf b.position right
      → tower_comparison t n (key_of n a) (key_of n b)
      ≡ ordering_then
      (ring_comparison t.ring n (left.position, exponents_of n (summed a.monomial.exponents left.exponents.items)) (right.position, exponents_of n (summed b.monomial.exponents right.exponents.items)))
      (ordering_then (by_way left.way.items right.way.items) (nat_cmp b.position a.position))
  compared a b left right ha hb l r =
      through_is (ring_comparison t.ring n) (maps_of n t.maps) (key_of n a) (key_of n b)
      ∙ ap₂ ordering_then (ap₂ (ring_comparison t.ring n) (at_bottom a left ha l) (at_bottom b right hb r))
      (ap₂ by_way l.way_is r.way_is ∙ by_way_end left.way.items right.way.items a.position b.position (same_ways a.position b.position left right l r))

key_same : (o : ModOrder) (order : Order) (ws : List ℕ) (n p : ℕ) (a b : Exponents n) → key_comparison o order ws n (p, a) (p, b) ≡ comparison order ws n a b
key_same Pot order ws n p a b = rw (tied p) refl
key_same Top order ws n p a b = ap (ordering_then (comparison order ws n a b)) (tied p) ∙ then-equal (comparison order ws n a b)

-- at one position the monomials decide
pub at_one_position :
    (t : Tower) (n i : ℕ) (a b : Exponents n)
    → tower_comparison t n (i, a) (i, b) ≡ comparison t.ring.order t.ring.weights n a b
at_one_position t n i a b =
    let maps = maps_of n t.maps in
    let compare = ring_comparison t.ring n in
    let q = bottom maps (i, unit n) in
    let order = key_comparison_order t.ring.module_order t.ring.order t.ring.weights n 0 in
    through_is compare maps (i, a) (i, b)
    ∙ ap (ordering_then (compare (bottom maps (i, a)) (bottom maps (i, b)))) (by_way_itself (way maps i))
    ∙ then-equal (compare (bottom maps (i, a)) (bottom maps (i, b)))
    ∙ ap₂ compare (bottom_key maps (i, a) ∙ ap (λ x. (q.0, x)) (times_comm a q.1)) (bottom_key maps (i, b) ∙ ap (λ x. (q.0, x)) (times_comm b q.1))
    ∙ order.kept q.1 (q.0, a) (q.0, b)
    ∙ key_same t.ring.module_order t.ring.order t.ring.weights n q.0 a b

-- ---- which of three comparisons decides
third : (o a b d : Ordering) → Equal ≡ a → Equal ≡ b → o ≡ d → o ≡ ordering_then a (ordering_then b d)
third o a b d ea eb e = e ∙ ap₂ (λ x y. ordering_then x (ordering_then y d)) ea eb

second : (o a b d : Ordering) → Equal ≡ a → o ≡ b → (o ≡ Equal → ⊥) → o ≡ ordering_then a (ordering_then b d)
second o a b d ea e ne = sym (then_keeps o d ne) ∙ ap₂ (λ x y. ordering_then x (ordering_then y d)) ea e

first : (o a d : Ordering) → o ≡ a → (o ≡ Equal → ⊥) → o ≡ ordering_then a d
first o a d e ne = sym (then_keeps o d ne) ∙ ap (λ x. ordering_then x d) e

module _ (t s : Tower) (same : t ≡ s) (a b : CodeKey) (left right : Head) (ha : IsMonomialOver t.ring a.monomial) (hb : IsMonomialOver t.ring b.monomial)
    (l : IsHead (variables t.ring) t.ring.weights t.maps a.position left) (r : IsHead (variables t.ring) t.ring.weights t.maps b.position right) (o : Ordering) where
  abbrev m : ℕ
  m = variables t.ring

  abbrev bottoms : Ordering
  bottoms = ring_comparison t.ring (variables t.ring) (left.position, exponents_of (variables t.ring) (summed a.monomial.exponents left.exponents.items)) (right.position, exponents_of (variables t.ring) (summed b.monomial.exponents right.exponents.items))

  abbrev Answer : Ordering → Type 0
  Answer x = x ≡ tower_comparison s (variables s.ring) (key_of (variables s.ring) a) (key_of (variables s.ring) b)

  whole : ordering_then bottoms (ordering_then (by_way left.way.items right.way.items) (nat_cmp b.position a.position)) ≡ tower_comparison s (variables s.ring) (key_of (variables s.ring) a) (key_of (variables s.ring) b)
  whole = sym (compared t a b left right ha hb l r) ∙ ap (λ (x : Tower). tower_comparison x (variables x.ring) (key_of (variables x.ring) a) (key_of (variables x.ring) b)) same

  pub by_positions :
      Equal ≡ bottoms → Equal ≡ by_way left.way.items right.way.items → o ≡ nat_cmp b.position a.position → Answer o
  by_positions ea eb e = third o bottoms (by_way left.way.items right.way.items) (nat_cmp b.position a.position) ea eb e ∙ whole

  pub by_ways :
      Equal ≡ bottoms → o ≡ by_way left.way.items right.way.items → (o ≡ Equal → ⊥) → Answer o
  by_ways ea e ne = second o bottoms (by_way left.way.items right.way.items) (nat_cmp b.position a.position) ea e ne ∙ whole

  pub by_bottoms : o ≡ bottoms → (o ≡ Equal → ⊥) → Answer o
  by_bottoms e ne = first o bottoms (ordering_then (by_way left.way.items right.way.items) (nat_cmp b.position a.position)) e ne ∙ whole

-- at one position
pub by_monomials :
    (t s : Tower) → t ≡ s → (a b : CodeKey) (o : Ordering) → a.position ≡ b.position → IsMonomialOver s.ring a.monomial
    → (let n = length a.monomial.exponents in o ≡ comparison t.ring.order t.ring.weights n (exponents_of n a.monomial.exponents) (exponents_of n b.monomial.exponents))
    → o ≡ tower_comparison s (variables s.ring) (key_of (variables s.ring) a) (key_of (variables s.ring) b)
by_monomials t s same a b o p over e =
    let n = variables s.ring in
    let e' : o ≡ comparison t.ring.order t.ring.weights (variables s.ring) (exponents_of (variables s.ring) a.monomial.exponents) (exponents_of (variables s.ring) b.monomial.exponents) =
    subst (λ k. o ≡ comparison t.ring.order t.ring.weights k (exponents_of k a.monomial.exponents) (exponents_of k b.monomial.exponents)) over.variables e in
    e' ∙ sym (at_one_position t n a.position (exponents_of n a.monomial.exponents) (exponents_of n b.monomial.exponents))
    ∙ ap (λ q. tower_comparison t n (key_of n a) (q, exponents_of n b.monomial.exponents)) p
    ∙ ap (λ (x : Tower). tower_comparison x n (key_of n a) (key_of n b)) same
