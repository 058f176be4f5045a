-- Loops over generators, step by step
use Rattle.std.proofs.Common.{Bool, Err, IfOk, Ok, Result, List, [], ap, ap₂, arith, false, get_or, length, map, refl}
use Rattle.std.proofs.Common.{suc, subst, sym, take, true, zero, ℕ, ◌+◌, ◌<◌, ◌∙◌, ◌∷◌, ◌≡◌, ◌≤◌, ◌||◌, ◌++◌}
use Rattle.std.proofs.Math.Seq.{take-suc}
use Rattle.std.specs.Prelude.{Option, Some}
use Rattle.monomials.specs.Exponents.{Divides, Exponents, exponents_of, lcm, quotient, times}
use Rattle.monomial_counts.proofs.Divisors.{divisor_test}
use Rattle.monomial_counts.specs.Counts.{has_divisor, is_divisor}
use Rattle.monomial_orders.specs.Kept.{IsWeighed, Monomial, monomials}
use Rattle.monomial_orders.specs.Monomials.{IsMonomial, IsQuotient}
use Rattle.std.proofs.lemmas.List.Sorted.{IsPermutation-sym, length_permutation}
use Rattle.std.specs.List.Sorted.{IsPermutation}
use Rattle.formal_sums.specs.FormalSums.{Each}
use Rattle.term_lists.proofs.Gathers.{Each_permutation}
use Rattle.hilbert_series.proofs.Lists.{Each_append, Each_back, Each_front, has_divisor-last, monomials-append, quotient_apart, quotient_lcm}
use Rattle.hilbert_series.proofs.Same.{has_divisor_redundant}
use Rattle.hilbert_series.specs.Generators.{AreCoprimeToAll, AreMonomialGenerators, HaveSameMultiples, IsCoprimeToAll, IsShorter}

-- the exponents of a generator
abbrev monomial : (n : ℕ) → Monomial → Exponents n
monomial n m = exponents_of n m.exponents

pub take_item : (xs : List Monomial) (i : ℕ) (x : Monomial) → i < length xs → x ≡ get_or xs i x → take (i + 1) xs ≡ take i xs ++ (x ∷ [])
take_item xs i x lt e =
    ap (λ k. take k xs) (let q : i + 1 ≡ suc i = omega arith in q) ∙ take-suc xs i x lt ∙ ap (λ y. take i xs ++ (y ∷ [])) (sym e)

pub each_item :
    (n : ℕ) (ws : List ℕ) (xs : List Monomial) (i : ℕ) (x : Monomial) → AreMonomialGenerators n ws xs → i < length xs → x ≡ get_or xs i x → IsWeighed n ws x
each_item n ws [] i x h lt e = absurd (omega (arith, lt))
each_item n ws (y ∷ xs) zero x h lt e = subst (IsWeighed n ws) (sym e) h.0
each_item n ws (y ∷ xs) (suc i) x h lt e = each_item n ws xs i x h.1 (omega (arith, lt)) e

pub item_apart :
    (n : ℕ) (ms : List (Exponents n)) (xs : List Monomial) (i : ℕ) (x : Monomial) → AreCoprimeToAll n ms xs → i < length xs → x ≡ get_or xs i x
    → IsCoprimeToAll ms (exponents_of n x.exponents)
item_apart n ms [] i x h lt e = absurd (omega (arith, lt))
item_apart n ms (y ∷ xs) zero x h lt e = subst (λ z. IsCoprimeToAll ms (exponents_of n z.exponents)) (sym e) h.0
item_apart n ms (y ∷ xs) (suc i) x h lt e = item_apart n ms xs i x h.1 (omega (arith, lt)) e

-- a copy of an item more
pub apart_more :
    (n : ℕ) (ms : List (Exponents n)) (xs kept more : List Monomial) (i : ℕ) (x m : Monomial) → i < length xs → x ≡ get_or xs i x → m ≡ x
    → more ≡ kept ++ (m ∷ []) → AreCoprimeToAll n ms xs → AreCoprimeToAll n ms kept → AreCoprimeToAll n ms more
apart_more n ms xs kept more i x m lt e c grown f h =
    subst (AreCoprimeToAll n ms) (sym grown) (Each_append (λ y. IsCoprimeToAll ms (exponents_of n y.exponents)) kept (m ∷ []) h
    (subst (λ y. IsCoprimeToAll ms (exponents_of n y.exponents)) (sym c) (item_apart n ms xs i x f lt e), tt))

-- the code's test of divisibility
pub divides_true :
    (n : ℕ) (g m : List ℕ) → length g ≡ n → Divides (exponents_of (length g) g) (exponents_of (length g) m)
    → is_divisor (exponents_of n g) (exponents_of n m) ≡ true
divides_true n g m e d =
    subst (λ k. is_divisor (exponents_of k g) (exponents_of k m) ≡ true) e ((divisor_test (exponents_of (length g) g) (exponents_of (length g) m)).1 d)

false_of : (b : Bool) → (b ≡ true → false ≡ true) → b ≡ false
false_of true h = sym (h refl)
false_of false h = refl

pub divides_false :
    (n : ℕ) (g m : List ℕ) → length g ≡ n → (Divides (exponents_of (length g) g) (exponents_of (length g) m) → false ≡ true)
    → is_divisor (exponents_of n g) (exponents_of n m) ≡ false
divides_false n g m e never =
    subst (λ k. is_divisor (exponents_of k g) (exponents_of k m) ≡ false) e
    (false_of _ (λ t. never ((divisor_test (exponents_of (length g) g) (exponents_of (length g) m)).0 t)))

or_true_left : (a b : Bool) → a ≡ true → a || b ≡ true
or_true_left true b e = refl
or_true_left false b e = grind arith

or_true_right : (a b : Bool) → b ≡ true → a || b ≡ true
or_true_right true b e = refl
or_true_right false b e = e

or_false : (a b : Bool) → a ≡ false → b ≡ false → a || b ≡ false
or_false false b e f = f
or_false true b e f = grind arith

pub has_divisor_item :
    (n : ℕ) (xs : List Monomial) (i : ℕ) (x : Monomial) (v : Exponents n) → i < length xs → x ≡ get_or xs i x
    → is_divisor (exponents_of n x.exponents) v ≡ true → has_divisor (monomials n xs) v ≡ true
has_divisor_item n [] i x v lt e d = absurd (omega (arith, lt))
has_divisor_item n (y ∷ xs) zero x v lt e d =
    or_true_left (is_divisor (monomial n y) v) (has_divisor (monomials n xs) v) (ap (λ z. is_divisor (monomial n z) v) (sym e) ∙ d)
has_divisor_item n (y ∷ xs) (suc i) x v lt e d =
    or_true_right (is_divisor (monomial n y) v) (has_divisor (monomials n xs) v) (has_divisor_item n xs i x v (omega (arith, lt)) e d)

pub has_divisor_next :
    (n : ℕ) (xs : List Monomial) (i : ℕ) (x : Monomial) (v : Exponents n) → i < length xs → x ≡ get_or xs i x
    → is_divisor (exponents_of n x.exponents) v ≡ false → has_divisor (monomials n (take i xs)) v ≡ false
    → has_divisor (monomials n (take (i + 1) xs)) v ≡ false
has_divisor_next n xs i x v lt e d h =
    ap (λ z. has_divisor (monomials n z) v) (take_item xs i x lt e) ∙ has_divisor-last n (take i xs) x v
    ∙ or_false (is_divisor (monomial n x) v) (has_divisor (monomials n (take i xs)) v) d h

-- ---- the generators that p does not divide, and p
swap_or : (k m r : Bool) → (m || k) || r ≡ k || (m || r)
swap_or true true r = refl
swap_or true false r = refl
swap_or false true r = refl
swap_or false false r = refl

dropped : (b c d : Bool) → (b || c) ≡ c → b || (c || d) ≡ c || d
dropped true true d e = refl
dropped true false d e = grind arith
dropped false c d e = refl

-- one that p does not divide is kept
pub with_keeps :
    (n : ℕ) (p : Monomial) (xs kept : List Monomial) (i : ℕ) (x : Monomial) → i < length xs → x ≡ get_or xs i x
    → HaveSameMultiples (monomials n kept) (exponents_of n p.exponents ∷ monomials n (take i xs))
    → HaveSameMultiples (monomials n (kept ++ (x ∷ []))) (exponents_of n p.exponents ∷ monomials n (take (i + 1) xs))
with_keeps n p xs kept i x lt e h v =
    has_divisor-last n kept x v ∙ ap (λ b. is_divisor (monomial n x) v || b) (h v)
    ∙ swapped (is_divisor (monomial n x) v) (is_divisor (monomial n p) v) (has_divisor (monomials n (take i xs)) v)
    ∙ ap (λ b. is_divisor (monomial n p) v || b) (sym (has_divisor-last n (take i xs) x v)
    ∙ ap (λ z. has_divisor (monomials n z) v) (sym (take_item xs i x lt e)))
  where
    swapped : (a b c : Bool) → a || (b || c) ≡ b || (a || c)
    swapped true true c = refl
    swapped true false c = refl
    swapped false true c = refl
    swapped false false c = refl

-- one that p divides is dropped
pub with_drops :
    (n : ℕ) (p : Monomial) (xs kept : List Monomial) (i : ℕ) (x : Monomial) → i < length xs → x ≡ get_or xs i x
    → is_divisor (exponents_of n p.exponents) (exponents_of n x.exponents) ≡ true
    → HaveSameMultiples (monomials n kept) (exponents_of n p.exponents ∷ monomials n (take i xs))
    → HaveSameMultiples (monomials n kept) (exponents_of n p.exponents ∷ monomials n (take (i + 1) xs))
with_drops n p xs kept i x lt e d h v =
    h v
    ∙ absorbs (is_divisor (monomial n p) v) (is_divisor (monomial n x) v) (has_divisor (monomials n (take i xs)) v)
    (has_divisor_redundant (monomial n p ∷ []) (monomial n x) v (or_true_left (is_divisor (monomial n p) (monomial n x)) false d))
    ∙ ap (λ b. is_divisor (monomial n p) v || b) (sym (has_divisor-last n (take i xs) x v)
    ∙ ap (λ z. has_divisor (monomials n z) v) (sym (take_item xs i x lt e)))
  where
    absorbs : (b c r : Bool) → c || (b || false) ≡ b || false → b || r ≡ b || (c || r)
    absorbs true c r e = refl
    absorbs false false r e = refl
    absorbs false true r e = grind arith

-- the loop: those that are kept so far
pub record IsWith (n : ℕ) (ws : List ℕ) (p : Monomial) (xs kept : List Monomial) (i : ℕ) : Type 0 where
  pub generators : AreMonomialGenerators n ws kept
  pub same : HaveSameMultiples (monomials n kept) (exponents_of n p.exponents ∷ monomials n (take i xs))
  pub apart : (ms : List (Exponents n)) → IsCoprimeToAll ms (exponents_of n p.exponents) → AreCoprimeToAll n ms xs → AreCoprimeToAll n ms kept

pub with_begins :
    (n : ℕ) (ws : List ℕ) (p m : Monomial) (xs kept : List Monomial) → kept ≡ m ∷ [] → m ≡ p → IsWeighed n ws p → IsWith n ws p xs kept 0
with_begins n ws p m xs kept e f w = subst (λ k. IsWith n ws p xs k 0) (sym (e ∙ ap (λ x. x ∷ []) f)) (record {
  generators = (w, tt);
  same = λ v. refl;
  apart = λ ms a g. (a, tt);
})

pub with_next :
    (n : ℕ) (ws : List ℕ) (p : Monomial) (xs kept more : List Monomial) (i : ℕ) (x m : Monomial) → i < length xs → x ≡ get_or xs i x
    → AreMonomialGenerators n ws xs → m ≡ x → more ≡ kept ++ (m ∷ []) → IsWith n ws p xs kept i → IsWith n ws p xs more (i + 1)
with_next n ws p xs kept more i x m lt e g c grown h = record {
  generators = subst (AreMonomialGenerators n ws) (sym grown)
      (Each_append (IsWeighed n ws) kept (m ∷ []) h.generators (subst (IsWeighed n ws) (sym c) (each_item n ws xs i x g lt e), tt));
  same = λ v.
      ap (λ z. has_divisor (monomials n z) v) (grown ∙ ap (λ y. kept ++ (y ∷ [])) c) ∙ with_keeps n p xs kept i x lt e h.same v;
  apart = λ ms a f. apart_more n ms xs kept more i x m lt e c grown f (h.apart ms a f);
}

pub with_same :
    (n : ℕ) (ws : List ℕ) (p : Monomial) (xs kept more : List Monomial) (i : ℕ) (x : Monomial) → i < length xs → x ≡ get_or xs i x
    → is_divisor (exponents_of n p.exponents) (exponents_of n x.exponents) ≡ true → more ≡ kept → IsWith n ws p xs kept i → IsWith n ws p xs more (i + 1)
with_same n ws p xs kept more i x lt e d same h = record {
  generators = subst (AreMonomialGenerators n ws) (sym same) h.generators;
  same = λ v. ap (λ z. has_divisor (monomials n z) v) same ∙ with_drops n p xs kept i x lt e d h.same v;
  apart = λ ms a f. subst (AreCoprimeToAll n ms) (sym same) (h.apart ms a f);
}

-- ---- the quotients, one more
map_append : (n : ℕ) (f : Exponents n → Exponents n) (xs ys : List (Exponents n)) → map f (xs ++ ys) ≡ map f xs ++ map f ys
map_append n f [] ys = refl
map_append n f (x ∷ xs) ys = ap (λ z. f x ∷ z) (map_append n f xs ys)

quotients_last :
    (n : ℕ) (xs : List Monomial) (x : Monomial) (p : Exponents n)
    → map (λ s. quotient s p) (monomials n (xs ++ (x ∷ []))) ≡ map (λ s. quotient s p) (monomials n xs) ++ (quotient (exponents_of n x.exponents) p ∷ [])
quotients_last n xs x p =
    ap (λ z. map (λ s. quotient s p) z) (monomials-append n xs (x ∷ [])) ∙ map_append n (λ s. quotient s p) (monomials n xs) (monomials n (x ∷ []))

pub apart_next :
    (n : ℕ) (xs : List Monomial) (i : ℕ) (x : Monomial) (p : List ℕ) → i < length xs → x ≡ get_or xs i x → length x.exponents ≡ n
    → times (exponents_of (length x.exponents) x.exponents) (exponents_of (length x.exponents) p)
    ≡ lcm (exponents_of (length x.exponents) x.exponents) (exponents_of (length x.exponents) p)
    → map (λ s. quotient s (exponents_of n p)) (monomials n (take i xs)) ≡ monomials n (take i xs)
    → map (λ s. quotient s (exponents_of n p)) (monomials n (take (i + 1) xs)) ≡ monomials n (take (i + 1) xs)
apart_next n xs i x p lt e long apart h =
    let q : times (monomial n x) (exponents_of n p) ≡ lcm (monomial n x) (exponents_of n p) =
    subst (λ k. times (exponents_of k x.exponents) (exponents_of k p) ≡ lcm (exponents_of k x.exponents) (exponents_of k p)) long apart in
    ap (λ z. map (λ s. quotient s (exponents_of n p)) (monomials n z)) (take_item xs i x lt e)
    ∙ quotients_last n (take i xs) x (exponents_of n p)
    ∙ ap₂ (λ y z. y ++ (z ∷ [])) h (quotient_apart (monomial n x) (exponents_of n p) q)
    ∙ sym (monomials-append n (take i xs) (x ∷ [])) ∙ ap (monomials n) (sym (take_item xs i x lt e))

-- ---- leaving out multiples: kept, and those that are not looked at yet
pub record Sifting (n : ℕ) (ws : List ℕ) (gs rest kept : List Monomial) : Type 0 where
  pub kept_generators : AreMonomialGenerators n ws kept
  pub rest_generators : AreMonomialGenerators n ws rest
  pub fewer : length kept + length rest ≤ length gs
  pub same : (v : Exponents n) → has_divisor (monomials n kept) v || has_divisor (monomials n rest) v ≡ has_divisor (monomials n gs) v
  pub kept_apart : (ms : List (Exponents n)) → AreCoprimeToAll n ms gs → AreCoprimeToAll n ms kept
  pub rest_apart : (ms : List (Exponents n)) → AreCoprimeToAll n ms gs → AreCoprimeToAll n ms rest

-- at the beginning nothing is kept
pub sifting_begins : (n : ℕ) (ws : List ℕ) (gs kept : List Monomial) → kept ≡ [] → AreMonomialGenerators n ws gs → Sifting n ws gs gs kept
sifting_begins n ws gs kept e g = subst (Sifting n ws gs gs) (sym e) (record {
  kept_generators = tt;
  rest_generators = g;
  fewer = omega arith;
  same = λ v. refl;
  kept_apart = λ ms h. tt;
  rest_apart = λ ms h. h;
})

length_last : (xs : List Monomial) (m : Monomial) → length (xs ++ (m ∷ [])) ≡ suc (length xs)
length_last [] m = refl
length_last (x ∷ xs) m = ap suc (length_last xs m)

pub front : (n : ℕ) (ws : List ℕ) (xs : List Monomial) (m : Monomial) → AreMonomialGenerators n ws (xs ++ (m ∷ [])) → AreMonomialGenerators n ws xs
front n ws [] m h = tt
front n ws (x ∷ xs) m h = (h.0, front n ws xs m h.1)

pub last_weighed : (n : ℕ) (ws : List ℕ) (xs : List Monomial) (m : Monomial) → AreMonomialGenerators n ws (xs ++ (m ∷ [])) → IsWeighed n ws m
last_weighed n ws [] m h = h.0
last_weighed n ws (x ∷ xs) m h = last_weighed n ws xs m h.1

pub sifting_keeps :
    (n : ℕ) (ws : List ℕ) (gs rest kept : List Monomial) (m : Monomial) → Sifting n ws gs (rest ++ (m ∷ [])) kept → Sifting n ws gs rest (kept ++ (m ∷ []))
sifting_keeps n ws gs rest kept m s = record {
  kept_generators = Each_append (IsWeighed n ws) kept (m ∷ []) s.kept_generators (last_weighed n ws rest m s.rest_generators, tt);
  rest_generators = front n ws rest m s.rest_generators;
  fewer = let a = length_last kept m in let b = length_last rest m in let c = s.fewer in omega (arith, a, b, c);
  same = λ v.
      ap (λ b. b || has_divisor (monomials n rest) v) (has_divisor-last n kept m v)
      ∙ swap_or (has_divisor (monomials n kept) v) (is_divisor (monomial n m) v) (has_divisor (monomials n rest) v)
      ∙ ap (λ b. has_divisor (monomials n kept) v || b) (sym (has_divisor-last n rest m v)) ∙ s.same v;
  kept_apart = λ ms h. Each_append (λ y. IsCoprimeToAll ms (exponents_of n y.exponents)) kept (m ∷ []) (s.kept_apart ms h)
      (Each_back (λ y. IsCoprimeToAll ms (exponents_of n y.exponents)) rest (m ∷ []) (s.rest_apart ms h));
  rest_apart = λ ms h. Each_front (λ y. IsCoprimeToAll ms (exponents_of n y.exponents)) rest (m ∷ []) (s.rest_apart ms h);
}

pub sifting_drops :
    (n : ℕ) (ws : List ℕ) (gs rest kept : List Monomial) (m : Monomial) → Sifting n ws gs (rest ++ (m ∷ [])) kept
    → has_divisor (monomials n kept) (exponents_of n m.exponents) ≡ true → Sifting n ws gs rest kept
sifting_drops n ws gs rest kept m s d = record {
  kept_generators = s.kept_generators;
  rest_generators = front n ws rest m s.rest_generators;
  fewer = let b = length_last rest m in let c = s.fewer in omega (arith, b, c);
  same = λ v.
      ap (λ b. b || has_divisor (monomials n rest) v) (sym (has_divisor_redundant (monomials n kept) (monomial n m) v d))
      ∙ swap_or (has_divisor (monomials n kept) v) (is_divisor (monomial n m) v) (has_divisor (monomials n rest) v)
      ∙ ap (λ b. has_divisor (monomials n kept) v || b) (sym (has_divisor-last n rest m v)) ∙ s.same v;
  kept_apart = s.kept_apart;
  rest_apart = λ ms h. Each_front (λ y. IsCoprimeToAll ms (exponents_of n y.exponents)) rest (m ∷ []) (s.rest_apart ms h);
}

or_nothing : (b : Bool) → b || false ≡ b
or_nothing true = refl
or_nothing false = refl

pub sifting_ends : (n : ℕ) (ws : List ℕ) (gs rest kept : List Monomial) → rest ≡ [] → Sifting n ws gs rest kept → IsShorter n ws gs kept
sifting_ends n ws gs rest kept e s = record {
  generators = s.kept_generators;
  fewer = let c = s.fewer in omega (arith, c);
  same = λ v.
      sym (or_nothing (has_divisor (monomials n kept) v))
      ∙ ap (λ r. has_divisor (monomials n kept) v || has_divisor (monomials n r) v) (sym e) ∙ s.same v;
  apart = s.kept_apart;
}

pub shorter_again : (n : ℕ) (ws : List ℕ) (gs middle few : List Monomial) → IsShorter n ws gs middle → IsShorter n ws middle few → IsShorter n ws gs few
shorter_again n ws gs middle few a b = record {
  generators = b.generators;
  fewer = let c = a.fewer in let d = b.fewer in omega (arith, c, d);
  same = λ v. b.same v ∙ a.same v;
  apart = λ ms h. b.apart ms (a.apart ms h);
}

-- ---- in another order
divides_none : (n : ℕ) (xs : List Monomial) (v : Exponents n) → has_divisor (monomials n xs) v ≡ false → Each (λ m. is_divisor (exponents_of n m.exponents) v ≡ false) xs
divides_none n [] v e = tt
divides_none n (x ∷ xs) v e = let p = neither (is_divisor (monomial n x) v) (has_divisor (monomials n xs) v) e in (p.0, divides_none n xs v p.1)
  where
    neither : (a b : Bool) → a || b ≡ false → (a ≡ false) × (b ≡ false)
    neither true b e = let bad : ⊥ = cc in absurd bad
    neither false b e = (refl, e)

none_divides : (n : ℕ) (xs : List Monomial) (v : Exponents n) → Each (λ m. is_divisor (exponents_of n m.exponents) v ≡ false) xs → has_divisor (monomials n xs) v ≡ false
none_divides n [] v h = refl
none_divides n (x ∷ xs) v h = or_false (is_divisor (monomial n x) v) (has_divisor (monomials n xs) v) h.0 (none_divides n xs v h.1)

same_bool : (a b : Bool) → (a ≡ false → b ≡ false) → (b ≡ false → a ≡ false) → a ≡ b
same_bool true true f g = refl
same_bool true false f g = g refl
same_bool false true f g = sym (f refl)
same_bool false false f g = refl

pub shorter_permuted :
    (n : ℕ) (ws : List ℕ) (gs sorted : List Monomial) → IsPermutation gs sorted → AreMonomialGenerators n ws gs → IsShorter n ws gs sorted
shorter_permuted n ws gs sorted p g = record {
  generators = Each_permutation (IsWeighed n ws) gs sorted p g;
  fewer = let q = length_permutation gs sorted p in omega (arith, q);
  same = λ v. same_bool (has_divisor (monomials n sorted) v) (has_divisor (monomials n gs) v)
      (λ e. none_divides n gs v (Each_permutation (λ m. is_divisor (exponents_of n m.exponents) v ≡ false) sorted gs (IsPermutation-sym gs sorted p) (divides_none n sorted v e)))
      (λ e. none_divides n sorted v (Each_permutation (λ m. is_divisor (exponents_of n m.exponents) v ≡ false) gs sorted p (divides_none n gs v e)));
  apart = λ ms h. Each_permutation (λ y. IsCoprimeToAll ms (exponents_of n y.exponents)) gs sorted p h;
}

pub ok_more : {A F : Type 0} (P Q : A → Type 0) (r : Result A F) → ((v : A) → P v → Q v) → IfOk r P → IfOk r Q
ok_more P Q (Ok v) f p = f v p
ok_more P Q (Err e) f p = tt

pub quotient_found :
    (n : ℕ) (s p m q : Monomial) (o : Option Monomial) → length s.exponents ≡ n
    → IsMonomial (length s.exponents) (lcm (exponents_of (length s.exponents) s.exponents) (exponents_of (length s.exponents) p.exponents)) m.exponents
    → IsQuotient (length m.exponents) m p o → o ≡ Some q
    → exponents_of n q.exponents ≡ quotient (exponents_of n s.exponents) (exponents_of n p.exponents)
quotient_found n s p m q o e mono h so =
    let c : IsQuotient (length m.exponents) m p (Some q) = subst (IsQuotient (length m.exponents) m p) so h in
    let a : monomial n q ≡ quotient (monomial n m) (monomial n p) =
    subst (λ k. exponents_of k q.exponents ≡ quotient (exponents_of k m.exponents) (exponents_of k p.exponents)) (mono.variables ∙ e) c.0.exponents in
    let b : monomial n m ≡ lcm (monomial n s) (monomial n p) =
    subst (λ k. exponents_of k m.exponents ≡ lcm (exponents_of k s.exponents) (exponents_of k p.exponents)) e mono.exponents in
    a ∙ ap (λ z. quotient z (monomial n p)) b ∙ quotient_lcm (monomial n s) (monomial n p)
