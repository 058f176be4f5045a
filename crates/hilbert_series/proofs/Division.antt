-- Dividing a numerator by 1 - t, again and again
use Rattle.std.proofs.Common.{List, [], ap, arith, get_or, inl, inr, length, refl, subst, suc, sym, zero, ℕ, ◌+◌, ◌<◌, ◌∙◌, ◌∷◌, ◌≡◌, ◌≤◌, ◌++◌}
use Rattle.std.proofs.lemmas.Bool.{cases_lt}
use Rattle.std.proofs.lemmas.Int.{ints}
use Rattle.std.proofs.lemmas.List.{get_or_past}
use Rattle.std.specs.Prelude.{nat_abs, negsuc, pos, ℤ, ◌+ℤ◌, ◌-ℤ◌, ◌^◌}
use Rattle.hilbert_laws.proofs.Orders.{IsDivisionAtOne, dimension_one, order_by_dividing, order_exists, order_of_division}
use Rattle.hilbert_laws.proofs.Recurrence.{partial_sums-first, series-divided, series_cancel, series_nothing}
use Rattle.hilbert_laws.proofs.Steps.{partial_sums_ext, partial_sums_nothing}
use Rattle.hilbert_laws.specs.Dimensions.{HasDimension, IsZero, nothing, of_order}
use Rattle.hilbert_laws.specs.Numerators.{divided_by, partial_sums, series, value_at_one}
use Rattle.hilbert_series.specs.Division.{AreSums, IsDividedByPowers, IsSummed, SumStops, sum_before}
use Rattle.hilbert_series.specs.Large.{DimensionStops, IsLarge}
use Rattle.hilbert_series.specs.declared.stop.HilbertStop.{HilbertStop}
use Rattle.hilbert_series.specs.declared.stop.HilbertStop.TheVariants.{Memory, Leads, Large}

-- the coefficients as a function
abbrev coefficients : List ℤ → ℕ → ℤ
coefficients K d = get_or K d (pos 0)

-- from the last coefficient on the sums are the value at 1
value_at : (K : List ℤ) (d : ℕ) → length K ≤ suc d → partial_sums (λ e. get_or K e (pos 0)) d ≡ value_at_one K
value_at [] d le = partial_sums_nothing d
value_at (a ∷ []) zero le = omega (arith, ints)
value_at (a ∷ b ∷ K) zero le = absurd (omega (arith, le))
value_at (a ∷ K) (suc d) le = partial_sums-first a K d ∙ ap (λ x. a +ℤ x) (value_at K d (omega (arith, le)))

pub division_begins : (K : List ℤ) → ((d : ℕ) → nat_abs (get_or K d (pos 0)) < 2 ^ 127) → IsDividedByPowers K K 0
division_begins K h = record {
  vanishes = λ i lt. absurd (omega (arith, lt));
  quotient = λ d. refl;
  narrow = λ j d le. let q : nat_abs (series [] K j d) ≡ nat_abs (get_or K d (pos 0)) = ap (λ x. nat_abs (series [] K x d)) (let z : j ≡ 0 = omega
      (arith, le) in z) in
      let r = h d in omega (arith, q, r);
}

module _ (K rest : List ℤ) (z : ℕ) (s : IsDividedByPowers K rest z) where
  next_series : (d : ℕ) → series [] K (suc z) d ≡ partial_sums (λ e. get_or rest e (pos 0)) d
  next_series d = partial_sums_ext (series [] K z) (λ e. get_or rest e (pos 0)) (λ e. sym (s.quotient e)) d

  value_of_quotient : value_at_one (divided_by z K) ≡ value_at_one rest
  value_of_quotient =
      let d = length (divided_by z K) + length rest in
      sym (value_at (divided_by z K) d (omega arith))
      ∙ partial_sums_ext (λ e. get_or (divided_by z K) e (pos 0)) (λ e. get_or rest e (pos 0))
      (λ e. series-divided z K s.vanishes 0 e ∙ ap (λ j. series [] K j e) (let q : 0 + z ≡ z = omega arith in q) ∙ sym (s.quotient e)) d
      ∙ value_at rest d (omega arith)

  -- the order is not less
  not_less : (y : ℕ) (e : ℤ) → IsDivisionAtOne K y e → z ≤ y
  not_less y e o = elim (cases_lt y z) [
    | inl lt ↦ absurd (o.nonzero (sym o.value ∙ s.vanishes y lt))
    | inr le ↦ le
  ]

  nothing_left : length rest ≡ 0 → IsZero K
  nothing_left e = series_cancel [] z K [] (λ d. sym (s.quotient d) ∙ get_or_past rest d (pos 0) (omega (arith, e)) ∙ sym (series_nothing [] z d))

zero_not_large : (K : List ℤ) → IsZero K → IsLarge K → ⊥
zero_not_large K h l = l.at_one.nonzero (sym ((dimension_one 0 K K (negsuc 0) (pos 0) (pos 0 -ℤ pos l.order) l.value (λ i. refl) (nothing h)
    (of_order l.order l.value l.at_one)).1))

pub zero_dimension :
    (n : ℕ) (K rest : List ℤ) (z : ℕ) → IsDividedByPowers K rest z → length rest ≡ 0 → HasDimension n K (negsuc 0) (pos 0) × (IsLarge K → ⊥)
zero_dimension n K rest z s e = (nothing (nothing_left K rest z s e), zero_not_large K (nothing_left K rest z s e))

-- a sum that is large
pub large_sum :
    (K rest : List ℤ) (z d : ℕ) → IsDividedByPowers K rest z → 2 ^ 127 ≤ nat_abs (partial_sums (λ e. get_or rest e (pos 0)) d) → IsLarge K
large_sum K rest z d s large = elim (order_exists (length K) K (λ i le. get_or_past K i (pos 0) le)) [
  | inl none ↦
      let v : partial_sums (λ e. get_or rest e (pos 0)) d ≡ pos 0 =
      partial_sums_ext (λ e. get_or rest e (pos 0)) (λ e. pos 0) (λ e. s.quotient e ∙ at_zero none z e) d ∙ partial_sums_nothing d in
      let w : nat_abs (partial_sums (λ e. get_or rest e (pos 0)) d) ≡ 0 = ap nat_abs v in
      absurd (no_power (nat_abs (partial_sums (λ e. get_or rest e (pos 0)) d)) w large)
  | inr o ↦ record {
    order = o.0;
    value = o.1;
    at_one = order_of_division K o.0 o.1 o.2;
    factors = suc z;
    few = let q = not_less K rest z s o.0 o.1 o.2 in omega (arith, q);
    place = d;
    large = let q : nat_abs (series [] K (suc z) d) ≡ nat_abs (partial_sums (λ e. get_or rest e (pos 0)) d) = ap nat_abs
        (next_series K rest z s d) in omega (arith, q, large);
  }
]
  where
    at_zero : IsZero K → (j e : ℕ) → series [] K j e ≡ pos 0
    at_zero h zero e = h e
    at_zero h (suc j) e = partial_sums_ext (series [] K j) (λ x. pos 0) (at_zero h j) e ∙ partial_sums_nothing e

    no_power : (x : ℕ) → x ≡ 0 → 2 ^ 127 ≤ x → ⊥
    no_power x q le = absurd (omega (arith, q, le))

-- a coefficient that is large
pub large_coefficient : (K : List ℤ) (d : ℕ) → 2 ^ 127 ≤ nat_abs (get_or K d (pos 0)) → IsLarge K
large_coefficient K d large = elim (order_exists (length K) K (λ i le. get_or_past K i (pos 0) le)) [
  | inl none ↦ let w : nat_abs (get_or K d (pos 0)) ≡ 0 = ap nat_abs (none d) in absurd (omega (arith, w, large))
  | inr o ↦ record {
    order = o.0;
    value = o.1;
    at_one = order_of_division K o.0 o.1 o.2;
    factors = 0;
    few = omega arith;
    place = d;
    large = large;
  }
]

-- ---- the sums, and the last of them
last_item : (init : List ℤ) (a : ℤ) → get_or (init ++ (a ∷ [])) (length init) (pos 0) ≡ a
last_item [] a = refl
last_item (x ∷ init) a = last_item init a

first_items : (init : List ℤ) (a : ℤ) (d : ℕ) → d < length init → get_or (init ++ (a ∷ [])) d (pos 0) ≡ get_or init d (pos 0)
first_items [] a d lt = absurd (omega (arith, lt))
first_items (x ∷ init) a zero lt = refl
first_items (x ∷ init) a (suc d) lt = first_items init a d (omega (arith, lt))

length_more : (init : List ℤ) (a : ℤ) → length (init ++ (a ∷ [])) ≡ suc (length init)
length_more [] a = refl
length_more (x ∷ init) a = ap suc (length_more init a)

module _ (K rest init : List ℤ) (a : ℤ) (z : ℕ) (s : IsDividedByPowers K rest z) (t : AreSums rest (init ++ (a ∷ []))) where
  rest_long : length rest ≡ suc (length init)
  rest_long = sym t.long ∙ length_more init a

  -- from the last one on, the sums are the last one
  sums_past : (d : ℕ) → length init ≤ d → partial_sums (λ e. get_or rest e (pos 0)) d ≡ value_at_one rest
  sums_past d le = value_at rest d (let q = rest_long in omega (arith, q, le))

  last_is : value_at_one rest ≡ a
  last_is =
      sym (sums_past (length init) (omega arith)) ∙ sym (t.each (length init) (let q = rest_long in omega (arith, q))) ∙ last_item init a

  sums_narrow : (d : ℕ) → nat_abs (series [] K (suc z) d) < 2 ^ 127
  sums_narrow d = elim (cases_lt d (length rest)) [
    | inl lt ↦
        let e : nat_abs (series [] K (suc z) d) ≡ nat_abs (get_or (init ++ (a ∷ [])) d (pos 0)) =
        ap nat_abs (next_series K rest z s d ∙ sym (t.each d lt)) in
        let r = t.narrow d in
        omega (arith, e, r)
    | inr ge ↦
        let q = rest_long in
        let e : nat_abs (series [] K (suc z) d) ≡ nat_abs (get_or (init ++ (a ∷ [])) (length init) (pos 0)) =
        ap nat_abs (next_series K rest z s d ∙ sums_past d (omega (arith, q, ge)) ∙ last_is ∙ sym (last_item init a)) in
        let r = t.narrow (length init) in
        omega (arith, e, r)
  ]

  all_narrow : (j d : ℕ) → j ≤ suc z → nat_abs (series [] K j d) < 2 ^ 127
  all_narrow j d le = elim (cases_lt z j) [
    | inl lt ↦
        let e : nat_abs (series [] K j d) ≡ nat_abs (series [] K (suc z) d) = ap (λ x. nat_abs (series [] K x d)) (let q : j ≡ suc z = omega
        (arith, lt, le) in q) in
        let r = sums_narrow d in
        omega (arith, e, r)
    | inr ge ↦ s.narrow j d ge
  ]

pub division_goes_on :
    (K rest init : List ℤ) (a : ℤ) (z : ℕ) → IsDividedByPowers K rest z → AreSums rest (init ++ (a ∷ [])) → a ≡ pos 0
    → IsDividedByPowers K init (z + 1) × (length init + 1 ≡ length rest)
division_goes_on K rest init a z s t e = (
  record {
    vanishes = λ i lt. elim (cases_lt i z) [
      | inl below ↦ s.vanishes i below
      | inr ge ↦ ap (λ x. value_at_one (divided_by x K)) (let q : i ≡ z = omega (arith, lt, ge) in q) ∙ value_of_quotient K rest z s
          ∙ last_is K rest init a z s t ∙ e
    ];
    quotient = λ d. elim (cases_lt d (length init)) [
      | inl lt ↦
          sym (first_items init a d lt) ∙ t.each d (let q = rest_long K rest init a z s t in omega (arith, q, lt)) ∙ sym (next_series K rest z s d)
          ∙ ap (λ x. series [] K x d) (let q : suc z ≡ z + 1 = omega arith in q)
      | inr ge ↦
          get_or_past init d (pos 0) ge ∙ sym e ∙ sym (last_is K rest init a z s t) ∙ sym (sums_past K rest init a z s t d ge)
          ∙ sym (next_series K rest z s d)
          ∙ ap (λ x. series [] K x d) (let q : suc z ≡ z + 1 = omega arith in q)
    ];
    narrow = λ j d le. all_narrow K rest init a z s t j d (omega (arith, le));
  },
  let q = rest_long K rest init a z s t in omega (arith, q),
)

-- the last sum is not 0: it is the degree
pub division_ends :
    (n : ℕ) (K rest init : List ℤ) (a : ℤ) (z : ℕ) → IsDividedByPowers K rest z → AreSums rest (init ++ (a ∷ [])) → (a ≡ pos 0 → ⊥)
    → HasDimension n K (pos n -ℤ pos z) a × (IsLarge K → ⊥)
division_ends n K rest init a z s t ne = (
  of_order z a (order_of_division K z a (record { vanishes = s.vanishes; value = v; nonzero = ne })),
  λ l.
      let o = order_by_dividing K l.order l.value l.at_one in
      let q : l.order ≤ z = not_more l.order l.value o in
      let r = all_narrow K rest init a z s t l.factors l.place (let f = l.few in omega (arith, f, q)) in
      let g = l.large in
      absurd (omega (arith, r, g)),
)
  where
    v : value_at_one (divided_by z K) ≡ a
    v = value_of_quotient K rest z s ∙ last_is K rest init a z s t

    not_more : (y : ℕ) (e : ℤ) → IsDivisionAtOne K y e → y ≤ z
    not_more y e o = elim (cases_lt z y) [
      | inl lt ↦ absurd (ne (sym v ∙ o.vanishes z lt))
      | inr le ↦ le
    ]

next_sum : (rest : List ℤ) (d : ℕ) → partial_sums (λ x. get_or rest x (pos 0)) d ≡ sum_before rest d +ℤ get_or rest d (pos 0)
next_sum rest zero = omega (arith, ints)
next_sum rest (suc d) = refl

pub summing_goes_on :
    (rest sums : List ℤ) (sum next : ℤ) (d : ℕ) → IsSummed rest sums sum d → next ≡ sum +ℤ get_or rest d (pos 0) → nat_abs next < 2 ^ 127
    → IsSummed rest (sums ++ (next ∷ [])) next (d + 1)
summing_goes_on rest sums sum next d s e narrow = record {
  long = let q = length_more sums next in let r = s.long in omega (arith, q, r);
  each = λ x lt. elim (cases_lt x d) [
    | inl below ↦ first_items sums next x (let r = s.long in omega (arith, below, r)) ∙ s.each x below
    | inr ge ↦
        let q : x ≡ length sums = let r = s.long in omega (arith, lt, ge, r) in
        ap (λ y. get_or (sums ++ (next ∷ [])) y (pos 0)) q ∙ last_item sums next ∙ is_next
        ∙ ap (partial_sums (λ y. get_or rest y (pos 0))) (let r : d ≡ x = omega (arith, lt, ge) in r)
  ];
  narrow = λ x. elim (cases_lt x (length sums)) [
    | inl below ↦ let q : nat_abs (get_or (sums ++ (next ∷ [])) x (pos 0)) ≡ nat_abs (get_or sums x (pos 0)) = ap nat_abs (first_items sums next x below) in
        let r = s.narrow x in omega (arith, q, r)
    | inr ge ↦ elim (cases_lt (length sums) x) [
      | inl past ↦
          let q : nat_abs (get_or (sums ++ (next ∷ [])) x (pos 0)) ≡ 0 =
          ap nat_abs (get_or_past (sums ++ (next ∷ [])) x (pos 0) (let l = length_more sums next in omega (arith, l, past))) in
          omega (arith, q)
      | inr le ↦
          let q : nat_abs (get_or (sums ++ (next ∷ [])) x (pos 0)) ≡ nat_abs next =
          ap nat_abs (ap (λ y. get_or (sums ++ (next ∷ [])) y (pos 0)) (let r : x ≡ length sums = omega (arith, ge, le) in r) ∙ last_item sums next) in
          omega (arith, q, narrow)
    ]
  ];
  last = is_next ∙ ap (sum_before rest) (let q : suc d ≡ d + 1 = omega arith in q);
}
  where
    is_next : next ≡ partial_sums (λ y. get_or rest y (pos 0)) d
    is_next = e ∙ ap (λ y. y +ℤ get_or rest d (pos 0)) s.last ∙ sym (next_sum rest d)

pub summing_more :
    (rest sums more : List ℤ) (sum next last pushed : ℤ) (d : ℕ) → IsSummed rest sums sum d → more ≡ sums ++ (pushed ∷ []) → pushed ≡ next → last ≡ next
    → next ≡ sum +ℤ get_or rest d (pos 0) → nat_abs next < 2 ^ 127 → IsSummed rest more last (d + 1)
summing_more rest sums more sum next last pushed d s grown p l e narrow =
    subst (λ v. IsSummed rest v last (d + 1)) (sym (grown ∙ ap (λ x. sums ++ (x ∷ [])) p))
    (subst (λ x. IsSummed rest (sums ++ (next ∷ [])) x (d + 1)) (sym l) (summing_goes_on rest sums sum next d s e narrow))

pub dimension_with : (n : ℕ) (K : List ℤ) (d e b f : ℤ) → d ≡ b → e ≡ f → HasDimension n K b f → HasDimension n K d e
dimension_with n K d e b f p q h = subst (λ x. HasDimension n K x e) (sym p) (subst (HasDimension n K b) (sym q) h)

pub large_coefficient_of : (K slice : List ℤ) → slice ≡ K → ((d : ℕ) × (2 ^ 127 ≤ nat_abs (get_or slice d (pos 0)))) → IsLarge K
large_coefficient_of K slice e w = subst IsLarge e (large_coefficient slice w.0 w.1)

pub sums_of_slice : (rest slice sums : List ℤ) → slice ≡ rest → AreSums slice sums → AreSums rest sums
sums_of_slice rest slice sums e s = subst (λ r. AreSums r sums) e s

pub sums_popped : (rest slice sums init : List ℤ) (a : ℤ) → slice ≡ rest → sums ≡ init ++ (a ∷ []) → AreSums slice sums → AreSums rest (init ++ (a ∷ []))
sums_popped rest slice sums init a e f s = subst (AreSums rest) f (sums_of_slice rest slice sums e s)

pub last_narrow : (rest init : List ℤ) (a : ℤ) → AreSums rest (init ++ (a ∷ [])) → nat_abs a < 2 ^ 127
last_narrow rest init a s =
    let r = s.narrow (length init) in
    let e : nat_abs (get_or (init ++ (a ∷ [])) (length init) (pos 0)) ≡ nat_abs a = ap nat_abs (last_item init a) in
    omega (arith, r, e)

pub stops_on :
    (K rest slice : List ℤ) (z : ℕ) (stop : HilbertStop) → slice ≡ rest → IsDividedByPowers K rest z → SumStops slice stop → DimensionStops K stop
stops_on K rest slice z Memory e s h = tt
stops_on K rest slice z (Leads k) e s h = h
stops_on K rest slice z Large e s h =
    large_sum K rest z h.0 s (subst (λ r. 2 ^ 127 ≤ nat_abs (partial_sums (λ x. get_or r x (pos 0)) h.0)) e h.1)
