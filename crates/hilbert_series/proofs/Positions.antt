-- The leads at a position, and the sum of the positions' numerators
use Rattle.std.proofs.Common.{Bool, List, [], ap, ap₂, arith, cond, eq-eqb, false, get_or, inl, inr, length, refl, subst}
use Rattle.std.proofs.Common.{suc, sym, take, true, zero, ℕ, ◌*◌, ◌+◌, ◌<◌, ◌∙◌, ◌∷◌, ◌≡◌, ◌≤◌, ◌++◌}
use Rattle.std.proofs.lemmas.Bool.{cases_lt}
use Rattle.std.proofs.lemmas.Bool.Decides.{eqb_tells}
use Rattle.std.proofs.lemmas.Int.{ints}
use Rattle.std.proofs.lemmas.List.{take_more}
use Rattle.std.specs.Prelude.{nat_abs, nat_eq, pos, ℤ, ◌+ℤ◌}
use Rattle.monomials.specs.Exponents.{exponents_of}
use Rattle.monomial_counts.specs.Counts.{standard_count}
use Rattle.formal_sums.specs.FormalSums.{Key}
use Rattle.hilbert_laws.proofs.Orders.{series_same}
use Rattle.hilbert_laws.proofs.Recurrence.{IsNumerator_position}
use Rattle.hilbert_laws.specs.Numerators.{IsNumerator, leads_at, module_count, plus, size}
use Rattle.hilbert_laws.specs.Shifting.{shifted}
use Rattle.monomial_orders.specs.Kept.{IsWeighed, Monomial, monomials}
use Rattle.term_lists.specs.Vectors.{key_of}
use Rattle.term_lists.specs.declared.key.Key.{Key as CodeKey}
use Rattle.hilbert_series.proofs.Lists.{Each_append, length_monomials, monomials-append}
use Rattle.hilbert_series.specs.Generators.{AreMonomialGenerators, HaveSameCoefficients, IsNumeratorOf}
use Rattle.hilbert_series.specs.Leads.{AreLeads, IsFirstOver, keys_of}

-- ---- one lead more
keys_of-append : (n : ℕ) (xs ys : List CodeKey) → keys_of n (xs ++ ys) ≡ keys_of n xs ++ keys_of n ys
keys_of-append n [] ys = refl
keys_of-append n (x ∷ xs) ys = ap (λ z. key_of n x ∷ z) (keys_of-append n xs ys)

leads_at-append : {n : ℕ} (i : ℕ) (xs ys : List (Key n)) → leads_at i (xs ++ ys) ≡ leads_at i xs ++ leads_at i ys
leads_at-append i [] ys = refl
leads_at-append {n} i (k ∷ ks) ys = go (nat_eq k.0 i) (leads_at-append i ks ys)
  where
    go :
        (b : Bool) → leads_at i (ks ++ ys) ≡ leads_at i ks ++ leads_at i ys
        → cond b (k.1 ∷ leads_at i (ks ++ ys)) (leads_at i (ks ++ ys)) ≡ cond b (k.1 ∷ leads_at i ks) (leads_at i ks) ++ leads_at i ys
    go true e = ap (λ z. k.1 ∷ z) e
    go false e = e

leads_next :
    (n i : ℕ) (ks : List CodeKey) (j : ℕ) (x : CodeKey) → j < length ks → x ≡ get_or ks j x
    → leads_at i (keys_of n (take (j + 1) ks))
    ≡ leads_at i (keys_of n (take j ks)) ++ cond (nat_eq x.position i) (exponents_of n x.monomial.exponents ∷ []) []
leads_next n i ks j x lt e =
    ap (λ z. leads_at i (keys_of n z)) (take_more ks j x lt ∙ ap (λ y. take j ks ++ (y ∷ [])) (sym e))
    ∙ ap (leads_at i) (keys_of-append n (take j ks) (x ∷ []))
    ∙ leads_at-append i (keys_of n (take j ks)) (keys_of n (x ∷ []))

append_nothing : {X : Type 0} (xs : List X) → xs ++ [] ≡ xs
append_nothing [] = refl
append_nothing (x ∷ xs) = ap (λ z. x ∷ z) (append_nothing xs)

pub leads_there :
    (n i : ℕ) (ks : List CodeKey) (j : ℕ) (x : CodeKey) → j < length ks → x ≡ get_or ks j x → x.position ≡ i
    → leads_at i (keys_of n (take (j + 1) ks)) ≡ leads_at i (keys_of n (take j ks)) ++ (exponents_of n x.monomial.exponents ∷ [])
leads_there n i ks j x lt e q =
    leads_next n i ks j x lt e
    ∙ ap (λ b. leads_at i (keys_of n (take j ks)) ++ cond b (exponents_of n x.monomial.exponents ∷ []) []) (eq-eqb x.position i q)

pub leads_elsewhere :
    (n i : ℕ) (ks : List CodeKey) (j : ℕ) (x : CodeKey) → j < length ks → x ≡ get_or ks j x → (x.position ≡ i → ⊥)
    → leads_at i (keys_of n (take (j + 1) ks)) ≡ leads_at i (keys_of n (take j ks))
leads_elsewhere n i ks j x lt e ne =
    leads_next n i ks j x lt e
    ∙ elim (eqb_tells x.position i) [
      | inl t ↦ absurd (ne t.1)
      | inr f ↦ ap (λ b. leads_at i (keys_of n (take j ks)) ++ cond b (exponents_of n x.monomial.exponents ∷ []) []) f.0
    ]
    ∙ append_nothing (leads_at i (keys_of n (take j ks)))

pub length_more : {X : Type 0} (xs : List X) (x : X) → length (xs ++ (x ∷ [])) ≡ length xs + 1
length_more [] x = refl
length_more (y ∷ xs) x = let r = length_more xs x in omega (arith, r)

pub count_there :
    (n i : ℕ) (ks : List CodeKey) (j count : ℕ) (x : CodeKey) → j < length ks → x ≡ get_or ks j x → x.position ≡ i
    → count ≡ length (leads_at i (keys_of n (take j ks))) → count + 1 ≡ length (leads_at i (keys_of n (take (j + 1) ks)))
count_there n i ks j count x lt e q h =
    let a : length (leads_at i (keys_of n (take (j + 1) ks))) ≡ length (leads_at i (keys_of n (take j ks)) ++ (exponents_of n x.monomial.exponents ∷ [])) =
    ap length (leads_there n i ks j x lt e q) in
    let b = length_more (leads_at i (keys_of n (take j ks))) (exponents_of n x.monomial.exponents) in
    omega (arith, a, b, h)

pub count_elsewhere :
    (n i : ℕ) (ks : List CodeKey) (j count : ℕ) (x : CodeKey) → j < length ks → x ≡ get_or ks j x → (x.position ≡ i → ⊥)
    → count ≡ length (leads_at i (keys_of n (take j ks))) → count ≡ length (leads_at i (keys_of n (take (j + 1) ks)))
count_elsewhere n i ks j count x lt e ne h = h ∙ ap length (sym (leads_elsewhere n i ks j x lt e ne))

pub each_lead :
    (n : ℕ) (ws : List ℕ) (ks : List CodeKey) (j : ℕ) (x : CodeKey) → AreLeads n ws ks → j < length ks → x ≡ get_or ks j x
    → IsWeighed n ws x.monomial
each_lead n ws [] j x h lt e = absurd (omega (arith, lt))
each_lead n ws (k ∷ ks) zero x h lt e = subst (λ y. IsWeighed n ws y.monomial) (sym e) h.0
each_lead n ws (k ∷ ks) (suc j) x h lt e = each_lead n ws ks j x h.1 (omega (arith, lt)) e

-- the monomials of the leads at position i, of the first j leads
pub record AreFound (n : ℕ) (ws : List ℕ) (i : ℕ) (ks : List CodeKey) (found : List Monomial) (j : ℕ) : Type 0 where
  pub generators : AreMonomialGenerators n ws found
  pub items : monomials n found ≡ leads_at i (keys_of n (take j ks))

pub found_more :
    (n : ℕ) (ws : List ℕ) (i : ℕ) (ks : List CodeKey) (found more : List Monomial) (j : ℕ) (x : CodeKey) (m : Monomial) → j < length ks
    → x ≡ get_or ks j x → AreLeads n ws ks → x.position ≡ i → m ≡ x.monomial → more ≡ found ++ (m ∷ []) → AreFound n ws i ks found j
    → AreFound n ws i ks more (j + 1)
found_more n ws i ks found more j x m lt e g q c grown h = record {
  generators = subst (AreMonomialGenerators n ws) (sym grown)
      (Each_append (IsWeighed n ws) found (m ∷ []) h.generators (subst (IsWeighed n ws) (sym c) (each_lead n ws ks j x g lt e), tt));
  items =
      ap (monomials n) grown ∙ monomials-append n found (m ∷ []) ∙ ap (λ z. z ++ monomials n (m ∷ [])) h.items
      ∙ ap (λ y. leads_at i (keys_of n (take j ks)) ++ (exponents_of n y.exponents ∷ [])) c ∙ sym (leads_there n i ks j x lt e q);
}

pub found_same :
    (n : ℕ) (ws : List ℕ) (i : ℕ) (ks : List CodeKey) (found more : List Monomial) (j : ℕ) (x : CodeKey) → j < length ks
    → x ≡ get_or ks j x → (x.position ≡ i → ⊥) → more ≡ found → AreFound n ws i ks found j → AreFound n ws i ks more (j + 1)
found_same n ws i ks found more j x lt e ne same h = record {
  generators = subst (AreMonomialGenerators n ws) (sym same) h.generators;
  items = ap (monomials n) same ∙ h.items ∙ sym (leads_elsewhere n i ks j x lt e ne);
}

pub few_generators : (n i : ℕ) (ks : List CodeKey) (found : List Monomial) → monomials n found ≡ leads_at i (keys_of n ks)
    → length (leads_at i (keys_of n ks)) ≤ 120 → length found ≤ 120
few_generators n i ks found e le =
    let a = length_monomials n found in
    let b : length (monomials n found) ≡ length (leads_at i (keys_of n ks)) = ap length e in
    omega (arith, a, b, le)

pub one_position_more :
    (n : ℕ) (ws : List ℕ) (i : ℕ) (ks : List (Key n)) (gs : List Monomial) (K L V : List ℤ) → monomials n gs ≡ leads_at i ks
    → IsNumerator ws n K (module_count ws i ks) → IsNumeratorOf n ws gs L → HaveSameCoefficients V (plus K (shifted 0 L))
    → IsNumerator ws n V (module_count ws (i + 1) ks)
one_position_more n ws i ks gs K L V e hk hl same d =
    series_same ws n V (plus K L) same d
    ∙ IsNumerator_position n i ws ks K L hk (λ x. hl x ∙ ap (λ ms. pos (standard_count ws ms x)) e) d
    ∙ ap (λ m. pos (module_count ws m ks d)) (let q : suc i ≡ i + 1 = omega arith in q)

nat_abs-plus : (a b : ℤ) → nat_abs (a +ℤ b) ≤ nat_abs a + nat_abs b
nat_abs-plus a b = omega (arith, ints)

size-plus : (K L : List ℤ) → size (plus K L) ≤ size K + size L
size-plus [] L = omega arith
size-plus (a ∷ K) [] = omega arith
size-plus (a ∷ K) (b ∷ L) = let q = size-plus K L in let r = nat_abs-plus a b in omega (arith, q, r)

size_none : (K : List ℤ) → ((i : ℕ) → get_or K i (pos 0) ≡ pos 0) → size K ≡ 0
size_none [] h = refl
size_none (a ∷ K) h = let q = size_none K (λ i. h (suc i)) in let r : nat_abs a ≡ 0 = ap nat_abs (h 0) in omega (arith, q, r)

size_same : (K L : List ℤ) → HaveSameCoefficients K L → size K ≡ size L
size_same [] L h = sym (size_none L (λ i. sym (h i)))
size_same (a ∷ K) [] h = size_none (a ∷ K) h
size_same (a ∷ K) (b ∷ L) h = let q = size_same K L (λ i. h (suc i)) in let r : nat_abs a ≡ nat_abs b = ap nat_abs (h 0) in omega (arith, q, r)

pub sum_size :
    (K L V : List ℤ) (i b : ℕ) → HaveSameCoefficients V (plus K (shifted 0 L)) → size K ≤ i * b → size L ≤ b → size V ≤ (i + 1) * b
sum_size K L V i b same k l =
    let a = size_same V (plus K L) same in
    let c = size-plus K L in
    let e : (i + 1) * b ≡ i * b + b = omega arith in
    omega (arith, a, c, e, k, l)

pub slices_sum :
    (K L S R V : List ℤ) → S ≡ K → R ≡ L → HaveSameCoefficients V (plus S (shifted 0 R)) → HaveSameCoefficients V (plus K (shifted 0 L))
slices_sum K L S R V e f same d = same d ∙ ap₂ (λ y z. get_or (plus y (shifted 0 z)) d (pos 0)) e f

-- ---- the first position with too many leads
pub one_first_over : {n : ℕ} (b rank k l : ℕ) (ks : List (Key n)) → IsFirstOver b rank ks k → IsFirstOver b rank ks l → k ≡ l
one_first_over b rank k l ks p q = elim (cases_lt p.position q.position) [
  | inl lt ↦ let a = q.first p.position lt in let x = p.leads in let y = p.over in absurd (omega (arith, a, x, y))
  | inr le ↦ elim (cases_lt q.position p.position) [
    | inl lt ↦ let a = p.first q.position lt in let x = q.leads in let y = q.over in absurd (omega (arith, a, x, y))
    | inr ge ↦ sym p.leads ∙ ap (λ i. length (leads_at i ks)) (let e : p.position ≡ q.position = omega (arith, le, ge) in e) ∙ q.leads
  ]
]

pub numerator_same :
    (n : ℕ) (ws : List ℕ) (rank : ℕ) (ks : List (Key n)) (K V : List ℤ) → HaveSameCoefficients V K → IsNumerator ws n K (module_count ws rank ks)
    → IsNumerator ws n V (module_count ws rank ks)
numerator_same n ws rank ks K V same h d = series_same ws n V K same d ∙ h d

length_take : (K : List ℤ) (m : ℕ) → m ≤ length K → length (take m K) ≡ m
length_take [] zero le = refl
length_take [] (suc m) le = absurd (omega (arith, le))
length_take (x ∷ K) zero le = refl
length_take (x ∷ K) (suc m) le = ap suc (length_take K m (omega (arith, le)))
