-- Lists of generators: their monomials, their multiples, and the steps of the recurrence over them
use Rattle.std.proofs.Common.{Bool, List, [], ap, ap₂, arith, false, get_or, length, map, max, refl, subst}
use Rattle.std.proofs.Common.{suc, sym, true, ℕ, ◌+◌, ◌-◌, ◌∙◌, ◌∷◌, ◌≡◌, ◌≤◌, ◌||◌, ◌++◌, zero}
use Rattle.std.specs.Prelude.{IfSome, Option, Some, pos, ℤ, ◌^◌}
use Rattle.monomials.specs.Exponents.{Exponents, cons, exponents_of, head, lcm, nil, quotient, tail, times}
use Rattle.monomials.specs.Weights.{weighted_degree}
use Rattle.monomial_counts.specs.Counts.{has_divisor, is_divisor, standard_count}
use Rattle.formal_sums.specs.FormalSums.{Each}
use Rattle.hilbert_laws.proofs.OneMore.{IsNumerator_more, IsNumerator_split}
use Rattle.hilbert_laws.proofs.Orders.{series_same}
use Rattle.hilbert_laws.proofs.Recurrence.{IsNumerator_one}
use Rattle.hilbert_laws.proofs.Sizes.{numerator_size}
use Rattle.hilbert_laws.specs.Numerators.{IsNumerator, plus, size}
use Rattle.hilbert_laws.specs.Shifting.{minus, shifted}
use Rattle.monomial_orders.specs.Kept.{IsWeighed, Monomial, monomials}
use Rattle.hilbert_series.proofs.Same.{IsNumerator_coprime, IsNumerator_same, has_divisor-append}
use Rattle.hilbert_series.proofs.Apart.{apart_append, apart_quotients, quotients_with}
use Rattle.hilbert_series.specs.Generators.{AreCoprimeToAll, AreMonomialGenerators, HaveSameCoefficients, HaveSameMultiples, IsCoprimeToAll, IsNumeratorOf, IsNumeratorWith}
use Rattle.hilbert_series.specs.Generators.{IsParted, IsShorter, IsNumeratorSplit}

pub monomials-append : (n : ℕ) (xs ys : List Monomial) → monomials n (xs ++ ys) ≡ monomials n xs ++ monomials n ys
monomials-append n [] ys = refl
monomials-append n (x ∷ xs) ys = ap (λ z. exponents_of n x.exponents ∷ z) (monomials-append n xs ys)

or_last : (a b : Bool) → a || (b || false) ≡ b || a
or_last true true = refl
or_last true false = refl
or_last false true = refl
or_last false false = refl

-- one more generator, at the end of the list
pub has_divisor-last :
    (n : ℕ) (xs : List Monomial) (m : Monomial) (v : Exponents n)
    → has_divisor (monomials n (xs ++ (m ∷ []))) v ≡ has_divisor (exponents_of n m.exponents ∷ monomials n xs) v
has_divisor-last n xs m v =
    ap (λ ms. has_divisor ms v) (monomials-append n xs (m ∷ []))
    ∙ has_divisor-append (monomials n xs) (monomials n (m ∷ [])) v
    ∙ or_last (has_divisor (monomials n xs) v) (is_divisor (exponents_of n m.exponents) v)

pub Each_append : (P : Monomial → Type 0) (xs ys : List Monomial) → Each P xs → Each P ys → Each P (xs ++ ys)
Each_append P [] ys a b = b
Each_append P (x ∷ xs) ys a b = (a.0, Each_append P xs ys a.1 b)

pub Each_front : (P : Monomial → Type 0) (xs ys : List Monomial) → Each P (xs ++ ys) → Each P xs
Each_front P [] ys a = tt
Each_front P (x ∷ xs) ys a = (a.0, Each_front P xs ys a.1)

pub Each_back : (P : Monomial → Type 0) (xs ys : List Monomial) → Each P (xs ++ ys) → Each P ys
Each_back P [] ys a = a
Each_back P (x ∷ xs) ys a = Each_back P xs ys a.1

pub IsNumerator_coefficients :
    (n : ℕ) (ws : List ℕ) (K V : List ℤ) (h : ℕ → ℕ) → HaveSameCoefficients V K → IsNumerator ws n K h → IsNumerator ws n V h
IsNumerator_coefficients n ws K V h same a d = series_same ws n V K same d ∙ a d

pub numerator_none : (n : ℕ) (ws : List ℕ) → IsNumeratorOf n ws [] (pos 1 ∷ [])
numerator_none n ws = IsNumerator_one n ws

swapped : (a b c : Bool) → a || (b || c) ≡ b || (a || c)
swapped true true c = refl
swapped true false c = refl
swapped false true c = refl
swapped false false c = refl

-- one more generator, with ms
pub behind :
    (n : ℕ) (ms : List (Exponents n)) (init : List Monomial) (last : Monomial) (v : Exponents n)
    → has_divisor (exponents_of n last.exponents ∷ (ms ++ monomials n init)) v ≡ has_divisor (ms ++ monomials n (init ++ (last ∷ []))) v
behind n ms init last v =
    ap (λ b. is_divisor (exponents_of n last.exponents) v || b) (has_divisor-append ms (monomials n init) v)
    ∙ swapped (is_divisor (exponents_of n last.exponents) v) (has_divisor ms v) (has_divisor (monomials n init) v)
    ∙ ap (λ b. has_divisor ms v || b) (sym (has_divisor-last n init last v)) ∙ sym (has_divisor-append ms (monomials n (init ++ (last ∷ []))) v)

-- lists with the same multiples, with ms
pub with_same_multiples :
    (n : ℕ) (ms ks ls : List (Exponents n)) → HaveSameMultiples ks ls → HaveSameMultiples (ms ++ ks) (ms ++ ls)
with_same_multiples n ms ks ls h v = has_divisor-append ms ks v ∙ ap (λ b. has_divisor ms v || b) (h v) ∙ sym (has_divisor-append ms ls v)

-- the last generator, coprime to the others
pub numerator_apart :
    (n : ℕ) (ws : List ℕ) (ms : List (Exponents n)) (init : List Monomial) (last : Monomial) (K V : List ℤ) → IsWeighed n ws last
    → IsCoprimeToAll ms (exponents_of n last.exponents) → IsCoprimeToAll (monomials n init) (exponents_of n last.exponents)
    → IsNumeratorWith n ws ms init K → HaveSameCoefficients V (minus K (shifted last.degree K)) → IsNumeratorWith n ws ms (init ++ (last ∷ [])) V
numerator_apart n ws ms init last K V w a e hk same =
    let ks = ms ++ monomials n init in
    let m = exponents_of n last.exponents in
    let a : IsNumerator ws n (minus K (shifted (weighted_degree ws m) K)) (standard_count ws (m ∷ ks)) =
    IsNumerator_coprime ws ks m K (apart_append ms (monomials n init) m a e) hk in
    let b : HaveSameCoefficients V (minus K (shifted (weighted_degree ws m) K)) =
    λ d. same d ∙ ap (λ x. get_or (minus K (shifted x K)) d (pos 0)) w.degree in
    IsNumerator_same n ws (m ∷ ks) (ms ++ monomials n (init ++ (last ∷ []))) V (behind n ms init last)
    (IsNumerator_coefficients n ws (minus K (shifted (weighted_degree ws m) K)) V (standard_count ws (m ∷ ks)) b a)

-- the last generator
pub numerator_last :
    (n : ℕ) (ws : List ℕ) (ms : List (Exponents n)) (init qs : List Monomial) (last : Monomial) (K L V : List ℤ) → IsWeighed n ws last
    → IsCoprimeToAll ms (exponents_of n last.exponents)
    → monomials n qs ≡ map (λ s. quotient s (exponents_of n last.exponents)) (monomials n init)
    → IsNumeratorWith n ws ms init K → IsNumeratorWith n ws ms qs L → HaveSameCoefficients V (minus K (shifted last.degree L))
    → IsNumeratorWith n ws ms (init ++ (last ∷ [])) V
numerator_last n ws ms init qs last K L V w a e hk hl same =
    let ks = ms ++ monomials n init in
    let m = exponents_of n last.exponents in
    let a : IsNumerator ws n (minus K (shifted (weighted_degree ws m) L)) (standard_count ws (m ∷ ks)) =
    IsNumerator_more ws ks m K L hk (λ d. hl d ∙ ap (λ x. pos (standard_count ws x d)) (quotients_with n ms m init qs a e)) in
    let b : HaveSameCoefficients V (minus K (shifted (weighted_degree ws m) L)) =
    λ d. same d ∙ ap (λ x. get_or (minus K (shifted x L)) d (pos 0)) w.degree in
    IsNumerator_same n ws (m ∷ ks) (ms ++ monomials n (init ++ (last ∷ []))) V (behind n ms init last)
    (IsNumerator_coefficients n ws (minus K (shifted (weighted_degree ws m) L)) V (standard_count ws (m ∷ ks)) b a)

-- the last generator and those before it
pub record IsLast (n : ℕ) (ws : List ℕ) (ms : List (Exponents n)) (list rest : List Monomial) (last : Monomial) : Type 0 where
  pub items : list ≡ rest ++ (last ∷ [])
  pub rest_generators : AreMonomialGenerators n ws rest
  pub weighed : IsWeighed n ws last
  pub long : length list ≡ length rest + 1
  pub rest_apart : AreCoprimeToAll n ms rest
  pub apart : IsCoprimeToAll ms (exponents_of n last.exponents)

pub last_generator :
    (n : ℕ) (ws : List ℕ) (ms : List (Exponents n)) (list rest : List Monomial) (last : Monomial) → list ≡ rest ++ (last ∷ [])
    → AreMonomialGenerators n ws list → AreCoprimeToAll n ms list → IsLast n ws ms list rest last
last_generator n ws ms list rest last e g a = record {
  items = e;
  rest_generators = Each_front (IsWeighed n ws) rest (last ∷ []) (subst (AreMonomialGenerators n ws) e g);
  weighed = (Each_back (IsWeighed n ws) rest (last ∷ []) (subst (AreMonomialGenerators n ws) e g)).0;
  long = ap length e ∙ longer rest;
  rest_apart = Each_front (λ x. IsCoprimeToAll ms (exponents_of n x.exponents)) rest (last ∷ []) (subst (AreCoprimeToAll n ms) e a);
  apart = (Each_back (λ x. IsCoprimeToAll ms (exponents_of n x.exponents)) rest (last ∷ []) (subst (AreCoprimeToAll n ms) e a)).0;
}
  where
    longer : (xs : List Monomial) → length (xs ++ (last ∷ [])) ≡ length xs + 1
    longer [] = refl
    longer (x ∷ xs) = let r = longer xs in omega (arith, r)

pub by_last_apart :
    (n : ℕ) (ws : List ℕ) (ms : List (Exponents n)) (list rest slice : List Monomial) (last : Monomial) (d : ℕ) (K S R V : List ℤ)
    → IsLast n ws ms list rest last → d ≡ last.degree → slice ≡ rest → IsCoprimeToAll (monomials n slice) (exponents_of n last.exponents)
    → IsNumeratorWith n ws ms rest K → S ≡ K → R ≡ K → HaveSameCoefficients V (minus S (shifted d R)) → IsNumeratorWith n ws ms list V
by_last_apart n ws ms list rest slice last d K S R V l e r a h s q same =
    subst (λ gs. IsNumeratorWith n ws ms gs V) (sym l.items)
    (numerator_apart n ws ms rest last K V l.weighed l.apart
    (subst (λ gs. IsCoprimeToAll (monomials n gs) (exponents_of n last.exponents)) r a) h
    (λ x. same x ∙ ap₂ (λ y z. get_or (minus y (shifted d z)) x (pos 0)) s q ∙ ap (λ y. get_or (minus K (shifted y K)) x (pos 0)) e))

pub by_last :
    (n : ℕ) (ws : List ℕ) (ms : List (Exponents n)) (list rest slice qs : List Monomial) (last : Monomial) (d : ℕ) (K L S R V : List ℤ)
    → IsLast n ws ms list rest last → d ≡ last.degree → slice ≡ rest
    → monomials n qs ≡ map (λ s. quotient s (exponents_of n last.exponents)) (monomials n slice)
    → IsNumeratorWith n ws ms rest K → IsNumeratorWith n ws ms qs L → S ≡ K → R ≡ L → HaveSameCoefficients V (minus S (shifted d R))
    → IsNumeratorWith n ws ms list V
by_last n ws ms list rest slice qs last d K L S R V l e r q h g s o same =
    subst (λ gs. IsNumeratorWith n ws ms gs V) (sym l.items)
    (numerator_last n ws ms rest qs last K L V l.weighed l.apart
    (subst (λ gs. monomials n qs ≡ map (λ s. quotient s (exponents_of n last.exponents)) (monomials n gs)) r q) h g
    (λ x. same x ∙ ap₂ (λ y z. get_or (minus y (shifted d z)) x (pos 0)) s o ∙ ap (λ y. get_or (minus K (shifted y L)) x (pos 0)) e))

-- the quotients by the last generator have no variable in common with ms
pub last_quotients_apart :
    (n : ℕ) (ws : List ℕ) (ms : List (Exponents n)) (list rest slice qs : List Monomial) (last : Monomial) → IsLast n ws ms list rest last → slice ≡ rest
    → monomials n qs ≡ map (λ s. quotient s (exponents_of n last.exponents)) (monomials n slice) → AreCoprimeToAll n ms qs
last_quotients_apart n ws ms list rest slice qs last l r q =
    apart_quotients n ms (exponents_of n last.exponents) slice qs q (subst (AreCoprimeToAll n ms) (sym r) l.rest_apart)

append_nothing : {n : ℕ} (ms : List (Exponents n)) → ms ≡ ms ++ []
append_nothing [] = refl
append_nothing (m ∷ ms) = ap (λ z. m ∷ z) (append_nothing ms)

pub no_generators :
    (n : ℕ) (ws : List ℕ) (done list : List Monomial) (K V : List ℤ) → list ≡ [] → V ≡ K → IsNumeratorOf n ws done K → IsNumeratorWith n ws (monomials n done) list V
no_generators n ws done list K V e v h =
    subst (λ gs. IsNumeratorWith n ws (monomials n done) gs V) (sym e)
    (subst (λ ms. IsNumerator ws n V (standard_count ws ms)) (append_nothing (monomials n done)) (subst (IsNumeratorOf n ws done) (sym v) h))

pub nothing_done : (n : ℕ) (ws : List ℕ) (done : List Monomial) (K : List ℤ) → done ≡ [] → K ≡ pos 1 ∷ [] → IsNumeratorOf n ws done K
nothing_done n ws done K e v = subst (λ gs. IsNumeratorOf n ws gs K) (sym e) (subst (IsNumeratorOf n ws []) (sym v) (numerator_none n ws))

pub with_nothing_done :
    (n : ℕ) (ws : List ℕ) (done gs small : List Monomial) (K : List ℤ) → done ≡ [] → IsShorter n ws gs small
    → IsNumeratorWith n ws (monomials n done) small K → IsNumeratorOf n ws gs K
with_nothing_done n ws done gs small K e s h =
    IsNumerator_same n ws (monomials n small) (monomials n gs) K s.same (subst (λ d. IsNumeratorWith n ws (monomials n d) small K) e h)

-- a pivot
pub split_by_pivot :
    (n : ℕ) (ws : List ℕ) (ms : List (Exponents n)) (gs with qs least : List Monomial) (p : Monomial) (d : ℕ) → IsWeighed n ws p → d ≡ p.degree
    → AreMonomialGenerators n ws with → HaveSameMultiples (monomials n with) (exponents_of n p.exponents ∷ monomials n gs) → length with ≤ length gs
    → length qs ≡ length gs → monomials n qs ≡ map (λ s. quotient s (exponents_of n p.exponents)) (monomials n gs)
    → IsShorter n ws qs least → IsCoprimeToAll ms (exponents_of n p.exponents) → AreCoprimeToAll n ms gs → AreCoprimeToAll n ms with → IsNumeratorSplit n ws ms gs with least d
split_by_pivot n ws ms gs with qs least p d w deg generators same fewer long e s a apart with_apart = record {
  left_generators = generators;
  right_generators = s.generators;
  left_fewer = fewer;
  right_fewer = let a = s.fewer in omega (arith, a, long);
  left_apart = with_apart;
  right_apart = s.apart ms (apart_quotients n ms (exponents_of n p.exponents) gs qs e apart);
  sum = λ K L hk hl.
      let ks = ms ++ monomials n gs in
      let m = exponents_of n p.exponents in
      let k : IsNumerator ws n K (standard_count ws (m ∷ ks)) = IsNumerator_same n ws (ms ++ monomials n with) (m ∷ ks) K first hk in
      let l : IsNumerator ws n L (standard_count ws (ms ++ monomials n qs)) =
      IsNumerator_same n ws (ms ++ monomials n least) (ms ++ monomials n qs) L (with_same_multiples n ms (monomials n least) (monomials n qs) s.same) hl in
      let a : IsNumerator ws n (plus K (shifted (weighted_degree ws m) L)) (standard_count ws ks) =
      IsNumerator_split ws ks m K L k (λ x. l x ∙ ap (λ z. pos (standard_count ws z x)) (quotients_with n ms m gs qs a e)) in
      IsNumerator_coefficients n ws (plus K (shifted (weighted_degree ws m) L)) (plus K (shifted d L)) (standard_count ws ks)
      (λ x. ap (λ y. get_or (plus K (shifted y L)) x (pos 0)) (deg ∙ w.degree)) a;
}
  where
    first : HaveSameMultiples (ms ++ monomials n with) (exponents_of n p.exponents ∷ (ms ++ monomials n gs))
    first v =
        with_same_multiples n ms (monomials n with) (exponents_of n p.exponents ∷ monomials n gs) same v
        ∙ has_divisor-append ms (exponents_of n p.exponents ∷ monomials n gs) v
        ∙ swapped (has_divisor ms v) (is_divisor (exponents_of n p.exponents) v) (has_divisor (monomials n gs) v)
        ∙ ap (λ b. is_divisor (exponents_of n p.exponents) v || b) (sym (has_divisor-append ms (monomials n gs) v))

pub numerator_split :
    (n : ℕ) (ws : List ℕ) (ms : List (Exponents n)) (gs left right : List Monomial) (d : ℕ) (K L S R V : List ℤ) → IsNumeratorSplit n ws ms gs left right d
    → IsNumeratorWith n ws ms left K → IsNumeratorWith n ws ms right L → S ≡ K → R ≡ L → HaveSameCoefficients V (plus S (shifted d R))
    → IsNumeratorWith n ws ms gs V
numerator_split n ws ms gs left right d K L S R V s hk hl e f same =
    IsNumerator_coefficients n ws (plus K (shifted d L)) V (standard_count ws (ms ++ monomials n gs))
    (λ x. same x ∙ ap₂ (λ y z. get_or (plus y (shifted d z)) x (pos 0)) e f) (s.sum K L hk hl)

-- parts without a common variable: the numerator of the first, with ms, is where the other begins
pub part_begins :
    (n : ℕ) (ws : List ℕ) (ms : List (Exponents n)) (gs first both other : List Monomial) (K : List ℤ) → IsParted n ws ms gs first both other
    → IsNumeratorWith n ws ms first K → IsNumeratorOf n ws both K
part_begins n ws ms gs first both other K p h = subst (λ ks. IsNumerator ws n K (standard_count ws ks)) (sym p.both_items) h

pub part_ends :
    (n : ℕ) (ws : List ℕ) (ms : List (Exponents n)) (gs first both other : List Monomial) (V : List ℤ) → IsParted n ws ms gs first both other
    → IsNumeratorWith n ws (monomials n both) other V → IsNumeratorWith n ws ms gs V
part_ends n ws ms gs first both other V p h = IsNumerator_same n ws (monomials n both ++ monomials n other) (ms ++ monomials n gs) V p.same h

pub numerator_shorter :
    (n : ℕ) (ws : List ℕ) (gs small : List Monomial) (K : List ℤ) → IsShorter n ws gs small → IsNumeratorOf n ws small K → IsNumeratorOf n ws gs K
numerator_shorter n ws gs small K s h = IsNumerator_same n ws (monomials n small) (monomials n gs) K s.same h

-- ---- sizes
power_le : (a k : ℕ) → 2 ^ a ≤ 2 ^ (a + k)
power_le a zero = let q : a + 0 ≡ a = omega arith in let r : 2 ^ (a + 0) ≡ 2 ^ a = ap (λ x. 2 ^ x) q in omega (arith, r)
power_le a (suc k) =
    let q : a + suc k ≡ suc (a + k) = omega arith in
    let r : 2 ^ (a + suc k) ≡ 2 ^ suc (a + k) = ap (λ x. 2 ^ x) q in
    let t : 2 ^ suc (a + k) ≡ 2 ^ (a + k) + 2 ^ (a + k) = omega arith in
    let h = power_le a k in
    omega (arith, r, t, h)

pub length_monomials : (n : ℕ) (gs : List Monomial) → length (monomials n gs) ≡ length gs
length_monomials n [] = refl
length_monomials n (g ∷ gs) = ap suc (length_monomials n gs)

size_list : (n : ℕ) (ws : List ℕ) (ks : List (Exponents n)) (K : List ℤ) → length ks ≤ 120 → IsNumerator ws n K (standard_count ws ks) → size K ≤ 2 ^ 120
size_list n ws ks K le h =
    let a = numerator_size ws ks K h in
    let k = 120 - length ks in
    let q : 120 ≡ length ks + k = omega (arith, le) in
    let r : 2 ^ 120 ≡ 2 ^ (length ks + k) = ap (λ x. 2 ^ x) q in
    let t = power_le (length ks) k in
    omega (arith, a, r, t)

pub size_small : (n : ℕ) (ws : List ℕ) (gs : List Monomial) (K : List ℤ) → length gs ≤ 120 → IsNumeratorOf n ws gs K → size K ≤ 2 ^ 120
size_small n ws gs K le h = size_list n ws (monomials n gs) K (let b = length_monomials n gs in omega (arith, le, b)) h

length_both : {n : ℕ} (ms ks : List (Exponents n)) → length (ms ++ ks) ≡ length ms + length ks
length_both [] ks = omega arith
length_both (m ∷ ms) ks = let r = length_both ms ks in omega (arith, r)

-- with the generators that are done
pub slice_small_with :
    (n : ℕ) (ws : List ℕ) (done gs : List Monomial) (K S : List ℤ) → length done + length gs ≤ 120 → IsNumeratorWith n ws (monomials n done) gs K → S ≡ K
    → (size S ≤ 2 ^ 126) × (size S ≤ 2 ^ 120)
slice_small_with n ws done gs K S le h e =
    let l = length_both (monomials n done) (monomials n gs) in
    let x = length_monomials n done in
    let y = length_monomials n gs in
    let a = size_list n ws (monomials n done ++ monomials n gs) K (omega (arith, le, l, x, y)) h in
    let b : size S ≡ size K = ap size e in
    (omega (arith, a, b), omega (arith, a, b))

pub slice_small :
    (n : ℕ) (ws : List ℕ) (gs : List Monomial) (K S : List ℤ) → length gs ≤ 120 → IsNumeratorOf n ws gs K → S ≡ K
    → (size S ≤ 2 ^ 126) × (size S ≤ 2 ^ 120)
slice_small n ws gs K S le h e =
    let a = size_small n ws gs K le h in
    let b : size S ≡ size K = ap size e in
    (omega (arith, a, b), omega (arith, a, b))

-- ---- quotients
pub quotient_lcm : {n : ℕ} (s p : Exponents n) → quotient (lcm s p) p ≡ quotient s p
quotient_lcm nil nil = refl
quotient_lcm (cons a s) (cons b p) = ap₂ cons (at a b) (quotient_lcm s p)
  where
    at : (a b : ℕ) → max a b - b ≡ a - b
    at a b = grind arith

pub quotient_apart : {n : ℕ} (s p : Exponents n) → times s p ≡ lcm s p → quotient s p ≡ s
quotient_apart nil nil e = refl
quotient_apart (cons a s) (cons b p) e = ap₂ cons (at a b (ap head e)) (quotient_apart s p (ap tail e))
  where
    at : (a b : ℕ) → a + b ≡ max a b → a - b ≡ a
    at a b q = grind arith

-- ---- optional values
pub some_holds : {A : Type 0} (P : A → Type 0) (o : Option A) (a : A) → o ≡ Some a → IfSome o P → P a
some_holds P o a e h = subst (λ x. IfSome x P) e h

pub split_of_slice :
    (n : ℕ) (ws : List ℕ) (done gs some slice left right : List Monomial) (d : ℕ) → some ≡ done → slice ≡ gs
    → IsNumeratorSplit n ws (monomials n some) slice left right d → IsNumeratorSplit n ws (monomials n done) gs left right d
split_of_slice n ws done gs some slice left right d f e s =
    subst (λ x. IsNumeratorSplit n ws (monomials n x) gs left right d) f (subst (λ x. IsNumeratorSplit n ws (monomials n some) x left right d) e s)

pub parted_of_slice :
    (n : ℕ) (ws : List ℕ) (done gs some slice first both other : List Monomial) → some ≡ done → slice ≡ gs
    → IsParted n ws (monomials n some) slice first both other → IsParted n ws (monomials n done) gs first both other
parted_of_slice n ws done gs some slice first both other f e s =
    subst (λ x. IsParted n ws (monomials n x) gs first both other) f (subst (λ x. IsParted n ws (monomials n some) x first both other) e s)
