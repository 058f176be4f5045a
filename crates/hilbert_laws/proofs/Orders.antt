-- Each numerator has one dimension and one degree
use Rattle.std.proofs.Common.{List, [], ap, arith, get_or, inl, inr, length, refl, suc, sym, zero, ℕ, ◌+◌, ◌-◌, ◌<◌, ◌∙◌, ◌∷◌, ◌≡◌, ◌≤◌, ◌⊎◌}
use Rattle.std.specs.Prelude.{negsuc, pos, ℤ, ◌+ℤ◌, ◌-ℤ◌}
use Rattle.std.proofs.lemmas.Int.{ints}
use Rattle.std.proofs.lemmas.List.{get_or_past}
use Rattle.hilbert_laws.proofs.Recurrence.{partial_sums-first, running_is, series-divided, series-minus, series-shift, series-shift_zero, series_cancel, series_nothing}
use Rattle.hilbert_laws.proofs.Steps.{partial_sums_ext, partial_sums_nothing, series-step, step_sums_ext}
use Rattle.hilbert_laws.specs.Dimensions.{HasDimension, HasOrderAtOne, IsZero, multiplied_by, nothing, of_order}
use Rattle.hilbert_laws.specs.Numerators.{divided_by, partial_sums, running, series, value_at_one}
use Rattle.hilbert_laws.specs.Shifting.{minus, shifted}
use Rattle.monomials.specs.Weights.{first_weight, other_weights}

-- K can be divided by 1 - t so often, and the value of the quotient at 1 is e, not 0
pub record IsDivisionAtOne (K : List ℤ) (z : ℕ) (e : ℤ) : Type 0 where
  pub vanishes : (j : ℕ) → j < z → value_at_one (divided_by j K) ≡ pos 0
  pub value : value_at_one (divided_by z K) ≡ e
  pub nonzero : e ≡ pos 0 → ⊥

-- the value at 1 is the last partial sum
value_is : (K : List ℤ) (d : ℕ) → length K ≤ d → partial_sums (λ e. get_or K e (pos 0)) d ≡ value_at_one K
value_is [] d le = partial_sums_nothing d
value_is (a ∷ K) zero le = absurd (omega (arith, le))
value_is (a ∷ K) (suc d) le = partial_sums-first a K d ∙ ap (λ x. a +ℤ x) (value_is K d (omega (arith, le)))

length-running : (s : ℤ) (K : List ℤ) → length (running s K) ≡ length K
length-running s [] = refl
length-running s (a ∷ K) = ap suc (length-running (s +ℤ a) K)

length-divided : (z : ℕ) (K : List ℤ) → length (divided_by z K) ≡ length K
length-divided zero K = refl
length-divided (suc z) K = length-divided z (running (pos 0) K) ∙ length-running (pos 0) K

pub series_same :
    (ws : List ℕ) (j : ℕ) (K L : List ℤ) → ((i : ℕ) → get_or K i (pos 0) ≡ get_or L i (pos 0)) → (d : ℕ)
    → series ws K j d ≡ series ws L j d
series_same ws zero K L h d = h d
series_same ws (suc j) K L h d =
    series-step ws K j d
    ∙ step_sums_ext (first_weight ws) (series (other_weights ws) K j) (series (other_weights ws) L j) (series_same (other_weights ws) j K L h) d
    ∙ sym (series-step ws L j d)

-- the value of the quotient at 1 is a coefficient of a series of K
value_series :
    (z : ℕ) (K : List ℤ) → ((i : ℕ) → i < z → value_at_one (divided_by i K) ≡ pos 0) → (d : ℕ) → length K ≤ d
    → series [] K (suc z) d ≡ value_at_one (divided_by z K)
value_series z K h d le =
    partial_sums_ext (series [] K z) (series [] (divided_by z K) 0) (λ e. ap (λ j. series [] K j e) (let q : z ≡ 0 + z = omega arith in q) ∙ sym (series-divided z K h 0 e)) d
    ∙ value_is (divided_by z K) d (let q = length-divided z K in omega (arith, q, le))

-- where the order is greater, the series vanishes
series_below : (K : List ℤ) (z j : ℕ) (e : ℤ) → IsDivisionAtOne K z e → j < z → (d : ℕ) → length K ≤ d → series [] K (suc j) d ≡ pos 0
series_below K z j e o lt d le = value_series j K (λ i q. o.vanishes i (omega (arith, q, lt))) d le ∙ o.vanishes j lt

series_at : (K : List ℤ) (z : ℕ) (e : ℤ) → IsDivisionAtOne K z e → (d : ℕ) → length K ≤ d → series [] K (suc z) d ≡ e
series_at K z e o d le = value_series z K o.vanishes d le ∙ o.value

module _ (K L : List ℤ) (same : (i : ℕ) → get_or K i (pos 0) ≡ get_or L i (pos 0)) where
  far : ℕ
  far = length K + length L

  at_far : (j : ℕ) → series [] K j (length K + length L) ≡ series [] L j (length K + length L)
  at_far j = series_same [] j K L same (length K + length L)

  not_below : (z y : ℕ) (e f : ℤ) → IsDivisionAtOne K z e → IsDivisionAtOne L y f → z < y → ⊥
  not_below z y e f o r lt = o.nonzero (sym (series_at K z e o (length K + length L) (omega arith)) ∙ at_far (suc z) ∙ series_below L y z f r lt (length K + length L) (omega arith))

  same_value : (z y : ℕ) (e f : ℤ) → IsDivisionAtOne K z e → IsDivisionAtOne L y f → z ≡ y → e ≡ f
  same_value z y e f o r q =
      sym (series_at K z e o (length K + length L) (omega arith)) ∙ at_far (suc z) ∙ ap (λ x. series [] L (suc x) (length K + length L)) q
      ∙ series_at L y f r (length K + length L) (omega arith)

  not_zero : (z : ℕ) (e : ℤ) → IsDivisionAtOne K z e → IsZero L → ⊥
  not_zero z e o h =
      o.nonzero (sym (series_at K z e o (length K) (omega arith)) ∙ series_same [] (suc z) K [] (λ i. same i ∙ h i) (length K) ∙ series_nothing [] (suc z) (length K))

turned : (K L : List ℤ) → ((i : ℕ) → get_or K i (pos 0) ≡ get_or L i (pos 0)) → (i : ℕ) → get_or L i (pos 0) ≡ get_or K i (pos 0)
turned K L h i = sym (h i)

cases : (a b : ℕ) → (a ≡ b) ⊎ ((a < b) ⊎ (b < a))
cases a b = grind arith

-- a number is 0 or not
decided_zero : (a : ℤ) → (a ≡ pos 0) ⊎ (a ≡ pos 0 → ⊥)
decided_zero (pos zero) = inl refl
decided_zero (pos (suc x)) = inr (λ e. absurd (omega (arith, ints, e)))
decided_zero (negsuc x) = inr (λ e. absurd (omega (arith, ints, e)))

-- behind its last coefficient the partial sums stay
sums_stay : (K : List ℤ) (m : ℕ) → ((d : ℕ) → suc m ≤ d → get_or K d (pos 0) ≡ pos 0) → (d k : ℕ) → m ≤ d → partial_sums (λ e. get_or K e (pos 0)) (d + k) ≡ partial_sums (λ e. get_or K e (pos 0)) d
sums_stay K m h d zero le = ap (partial_sums (λ e. get_or K e (pos 0))) (let q : d + 0 ≡ d = omega arith in q)
sums_stay K m h d (suc k) le =
    let next : d + suc k ≡ suc (d + k) = omega arith in
    let z : get_or K (suc (d + k)) (pos 0) ≡ pos 0 = h (suc (d + k)) (omega (arith, le)) in
    let r = sums_stay K m h d k le in
    ap (partial_sums (λ e. get_or K e (pos 0))) next ∙ omega (arith, ints, z, r)

pub order_exists : (m : ℕ) (K : List ℤ) → ((d : ℕ) → m ≤ d → get_or K d (pos 0) ≡ pos 0) → IsZero K ⊎ ((z : ℕ) × (e : ℤ) × IsDivisionAtOne K z e)
order_exists zero K h = inl (λ d. h d (omega arith))
order_exists (suc m) K h = go (decided_zero (value_at_one K)) (λ v. order_exists m (running (pos 0) K) (past v))
  where
    sum_at : value_at_one K ≡ pos 0 → (d : ℕ) → get_or (running (pos 0) K) d (pos 0) ≡ partial_sums (λ e. get_or K e (pos 0)) d
    sum_at v d = let r = running_is K (pos 0) d (omega (arith, ints, v)) in omega (arith, ints, r)

    past : value_at_one K ≡ pos 0 → (d : ℕ) → m ≤ d → get_or (running (pos 0) K) d (pos 0) ≡ pos 0
    past v d le = sum_at v d ∙ sym (sums_stay K m h d (length K) le) ∙ value_is K (d + length K) (omega arith) ∙ v

    none : value_at_one K ≡ pos 0 → IsZero (running (pos 0) K) → IsZero K
    none v z zero = sym (sum_at v 0) ∙ z 0
    none v z (suc d) =
        let a : partial_sums (λ e. get_or K e (pos 0)) d ≡ pos 0 = sym (sum_at v d) ∙ z d in
        let b : partial_sums (λ e. get_or K e (pos 0)) d +ℤ get_or K (suc d) (pos 0) ≡ pos 0 = sym (sum_at v (suc d)) ∙ z (suc d) in
        omega (arith, ints, a, b)

    go : (value_at_one K ≡ pos 0) ⊎ (value_at_one K ≡ pos 0 → ⊥)
        → (value_at_one K ≡ pos 0 → IsZero (running (pos 0) K) ⊎ ((z : ℕ) × (e : ℤ) × IsDivisionAtOne (running (pos 0) K) z e))
        → IsZero K ⊎ ((z : ℕ) × (e : ℤ) × IsDivisionAtOne K z e)
    go (inr nz) more = inr (0, value_at_one K, record { vanishes = λ j lt. absurd (omega (arith, lt)); value = refl; nonzero = nz })
    go (inl v) more = next (more v)
      where
        next : IsZero (running (pos 0) K) ⊎ ((z : ℕ) × (e : ℤ) × IsDivisionAtOne (running (pos 0) K) z e) → IsZero K ⊎ ((z : ℕ) × (e : ℤ) × IsDivisionAtOne K z e)
        next (inl z) = inl (none v z)
        next (inr (z, e, o)) = inr (suc z, e, record { vanishes = below; value = o.value; nonzero = o.nonzero })
          where
            below : (j : ℕ) → j < suc z → value_at_one (divided_by j K) ≡ pos 0
            below zero lt = v
            below (suc j) lt = o.vanishes j (omega (arith, lt))

-- ---- K is (1 - t)^z L
-- the series of (1 - t)^z L over (1 - t)^(j + z) is that of L over (1 - t)^j
series-one_factor : (j : ℕ) (L : List ℤ) (d : ℕ) → series [] (minus L (shifted 1 L)) (suc j) d ≡ series [] L j d
series-one_factor j L zero =
    let a = series-minus [] (suc j) L (shifted 1 L) 0 in
    let b = series-shift_zero [] (suc j) L in
    omega (arith, ints, a, b)
series-one_factor j L (suc d) =
    let a = series-minus [] (suc j) L (shifted 1 L) (suc d) in
    let b = series-shift [] (suc j) L d in
    omega (arith, ints, a, b)

pub series-multiplied : (z j d : ℕ) (L : List ℤ) → series [] (multiplied_by z L) (j + z) d ≡ series [] L j d
series-multiplied zero j d L = ap (λ x. series [] L x d) (let q : j + 0 ≡ j = omega arith in q)
series-multiplied (suc z) j d L =
    ap (λ x. series [] (multiplied_by (suc z) L) x d) (let q : j + suc z ≡ suc (j + z) = omega arith in q)
    ∙ series-one_factor (j + z) (multiplied_by z L) d ∙ series-multiplied z j d L

multiplied_by-add : (z k : ℕ) (L : List ℤ) → multiplied_by (z + k) L ≡ multiplied_by z (multiplied_by k L)
multiplied_by-add zero k L = ap (λ x. multiplied_by x L) (let q : 0 + k ≡ k = omega arith in q)
multiplied_by-add (suc z) k L =
    ap (λ x. multiplied_by x L) (let q : suc z + k ≡ suc (z + k) = omega arith in q)
    ∙ ap (λ M. minus M (shifted 1 M)) (multiplied_by-add z k L)

-- what is found by dividing is such an L
pub order_of_division : (K : List ℤ) (z : ℕ) (e : ℤ) → IsDivisionAtOne K z e → HasOrderAtOne K z e
order_of_division K z e o = record {
  quotient = divided_by z K;
  multiple = series_cancel [] z K (multiplied_by z (divided_by z K)) (λ d.
      ap (λ j. series [] K j d) (let q : z ≡ 0 + z = omega arith in q) ∙ sym (series-divided z K o.vanishes 0 d)
      ∙ sym (series-multiplied z 0 d (divided_by z K))
      ∙ ap (λ j. series [] (multiplied_by z (divided_by z K)) j d) (let q : 0 + z ≡ z = omega arith in q));
  value = o.value;
  nonzero = o.nonzero;
}

-- and where there is one, dividing finds it
pub order_by_dividing : (K : List ℤ) (z : ℕ) (e : ℤ) → HasOrderAtOne K z e → IsDivisionAtOne K z e
order_by_dividing K z e o = record {
  vanishes = below z (omega arith);
  value =
      sym (value_series z K (below z (omega arith)) (length K + length o.quotient) (omega arith))
      ∙ series_same [] (suc z) K (multiplied_by z o.quotient) o.multiple (length K + length o.quotient)
      ∙ ap (λ j. series [] (multiplied_by z o.quotient) j (length K + length o.quotient)) (let q : suc z ≡ 1 + z = omega arith in q)
      ∙ series-multiplied z 1 (length K + length o.quotient) o.quotient ∙ value_is o.quotient (length K + length o.quotient) (omega arith) ∙ o.value;
  nonzero = o.nonzero;
}
  where
    -- with fewer factors taken away, the series ends
    ends : (i : ℕ) → i < z → (d : ℕ) → length (multiplied_by (z - suc i) o.quotient) ≤ d → series [] K (suc i) d ≡ pos 0
    ends i lt d le =
        let split : z ≡ suc i + (z - suc i) = omega (arith, lt) in
        series_same [] (suc i) K (multiplied_by z o.quotient) o.multiple d
        ∙ ap (λ M. series [] M (suc i) d) (ap (λ x. multiplied_by x o.quotient) split ∙ multiplied_by-add (suc i) (z - suc i) o.quotient)
        ∙ ap (λ j. series [] (multiplied_by (suc i) (multiplied_by (z - suc i) o.quotient)) j d) (let q : suc i ≡ 0 + suc i = omega arith in q)
        ∙ series-multiplied (suc i) 0 d (multiplied_by (z - suc i) o.quotient)
        ∙ get_or_past (multiplied_by (z - suc i) o.quotient) d (pos 0) le

    last : (j i : ℕ) → j < suc i → (j < i) ⊎ (j ≡ i)
    last j i lt = grind arith

    below : (i : ℕ) → i ≤ z → (j : ℕ) → j < i → value_at_one (divided_by j K) ≡ pos 0
    below zero le j lt = absurd (omega (arith, lt))
    below (suc i) le j lt = go (below i (omega (arith, le))) (last j i lt)
      where
        go : ((k : ℕ) → k < i → value_at_one (divided_by k K) ≡ pos 0) → (j < i) ⊎ (j ≡ i) → value_at_one (divided_by j K) ≡ pos 0
        go earlier (inl s) = earlier j s
        go earlier (inr q) =
            let d = length K + length (multiplied_by (z - suc i) o.quotient) in
            ap (λ x. value_at_one (divided_by x K)) q
            ∙ sym (value_series i K earlier d (omega arith)) ∙ ends i (omega (arith, le)) d (omega arith)

-- one dimension and one degree
pub dimension_one :
    (n : ℕ) (K L : List ℤ) (d e b f : ℤ) → ((i : ℕ) → get_or K i (pos 0) ≡ get_or L i (pos 0)) → HasDimension n K d e → HasDimension n L b f
    → (d ≡ b) × (e ≡ f)
dimension_one n K L _ _ _ _ same (nothing h) (nothing g) = (refl, refl)
dimension_one n K L _ _ _ _ same (nothing h) (of_order y f r) = absurd (not_zero L K (turned K L same) y f (order_by_dividing L y f r) h)
dimension_one n K L _ _ _ _ same (of_order z e o) (nothing g) = absurd (not_zero K L same z e (order_by_dividing K z e o) g)
dimension_one n K L _ _ _ _ same (of_order z e o) (of_order y f r) = go (cases z y)
  where
    go : (z ≡ y) ⊎ ((z < y) ⊎ (y < z)) → (pos n -ℤ pos z ≡ pos n -ℤ pos y) × (e ≡ f)
    go (inl q) = (ap (λ x. pos n -ℤ pos x) q, same_value K L same z y e f (order_by_dividing K z e o) (order_by_dividing L y f r) q)
    go (inr (inl lt)) = absurd (not_below K L same z y e f (order_by_dividing K z e o) (order_by_dividing L y f r) lt)
    go (inr (inr lt)) = absurd (not_below L K (turned K L same) y z f e (order_by_dividing L y f r) (order_by_dividing K z e o) lt)

pub dimension_exists : (n : ℕ) (K : List ℤ) → (d : ℤ) × (e : ℤ) × HasDimension n K d e
dimension_exists n K = go (order_exists (length K) K (λ d le. get_or_past K d (pos 0) le))
  where
    go : IsZero K ⊎ ((z : ℕ) × (e : ℤ) × IsDivisionAtOne K z e) → (d : ℤ) × (e : ℤ) × HasDimension n K d e
    go (inl z) = (negsuc 0, pos 0, nothing z)
    go (inr (z, e, o)) = (pos n -ℤ pos z, e, of_order z e (order_of_division K z e o))
