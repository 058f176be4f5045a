-- Coefficients of sums and of products with powers of t
use Rattle.std.proofs.Common.{List, [], ap, arith, get_or, inl, inr, length, map, max, refl}
use Rattle.std.proofs.Common.{suc, zero, ℕ, ◌+◌, ◌-◌, ◌<◌, ◌∙◌, ◌∷◌, ◌≡◌, ◌≤◌, ◌++◌}
use Rattle.std.proofs.lemmas.Bool.{cases_lt}
use Rattle.std.proofs.lemmas.Int.{ints}
use Rattle.std.proofs.lemmas.List.{get_or_past}
use Rattle.std.specs.Prelude.{nat_abs, pos, ℤ, ◌+ℤ◌, ◌-ℤ◌}
use Rattle.hilbert_laws.specs.Numerators.{plus, size}
use Rattle.hilbert_laws.specs.Shifting.{minus, shifted}
use Rattle.hilbert_series.specs.Generators.{HaveSameCoefficients}

pub coefficient_plus : (K L : List ℤ) (d : ℕ) → get_or (plus K L) d (pos 0) ≡ get_or K d (pos 0) +ℤ get_or L d (pos 0)
coefficient_plus [] L d = omega (arith, ints)
coefficient_plus (a ∷ K) [] d = omega (arith, ints)
coefficient_plus (a ∷ K) (b ∷ L) zero = refl
coefficient_plus (a ∷ K) (b ∷ L) (suc d) = coefficient_plus K L d

coefficient_turned : (K : List ℤ) (d : ℕ) → get_or (map (λ a. pos 0 -ℤ a) K) d (pos 0) ≡ pos 0 -ℤ get_or K d (pos 0)
coefficient_turned [] d = omega (arith, ints)
coefficient_turned (a ∷ K) zero = refl
coefficient_turned (a ∷ K) (suc d) = coefficient_turned K d

pub coefficient_minus : (K L : List ℤ) (d : ℕ) → get_or (minus K L) d (pos 0) ≡ get_or K d (pos 0) -ℤ get_or L d (pos 0)
coefficient_minus K L d = let a = coefficient_plus K (map (λ a. pos 0 -ℤ a) L) d in let b = coefficient_turned L d in omega (arith, ints, a, b)

pub shifted_below : (K : List ℤ) (m d : ℕ) → d < m → get_or (shifted m K) d (pos 0) ≡ pos 0
shifted_below K zero d lt = absurd (omega (arith, lt))
shifted_below K (suc m) zero lt = refl
shifted_below K (suc m) (suc d) lt = shifted_below K m d (omega (arith, lt))

pub shifted_from : (K : List ℤ) (m d : ℕ) → m ≤ d → get_or (shifted m K) d (pos 0) ≡ get_or K (d - m) (pos 0)
shifted_from K zero d le = ap (λ x. get_or K x (pos 0)) (let q : d ≡ d - 0 = omega arith in q)
shifted_from K (suc m) zero le = absurd (omega (arith, le))
shifted_from K (suc m) (suc d) le = shifted_from K m d (omega (arith, le)) ∙ ap (λ x. get_or K x (pos 0)) (let q : d - m ≡ suc d - suc m = omega arith in q)

pub coefficient_size : (K : List ℤ) (d : ℕ) → nat_abs (get_or K d (pos 0)) ≤ size K
coefficient_size [] d = omega (arith, ints)
coefficient_size (a ∷ K) zero = omega arith
coefficient_size (a ∷ K) (suc d) = let r = coefficient_size K d in omega (arith, r)

pub shifted_size : (K : List ℤ) (m d : ℕ) → nat_abs (get_or (shifted m K) d (pos 0)) ≤ size K
shifted_size K zero d = coefficient_size K d
shifted_size K (suc m) zero = omega (arith, ints)
shifted_size K (suc m) (suc d) = shifted_size K m d

shifted_past : (K : List ℤ) (m d : ℕ) → m + length K ≤ d → get_or (shifted m K) d (pos 0) ≡ pos 0
shifted_past K m d le = shifted_from K m d (omega (arith, le)) ∙ get_or_past K (d - m) (pos 0) (omega (arith, le))

pub sums_same :
    (v K L : List ℤ) (m : ℕ) → length v ≡ max (length K) (m + length L)
    → ((x : ℕ) → x < length v → get_or v x (pos 0) ≡ get_or (plus K (shifted m L)) x (pos 0)) → HaveSameCoefficients v (plus K (shifted m L))
sums_same v K L m long h d = elim (cases_lt d (length v)) [
  | inl lt ↦ h d lt
  | inr le ↦
      let a = get_or_past v d (pos 0) le in
      let b = get_or_past K d (pos 0) (omega (arith, le, long)) in
      let c = shifted_past L m d (omega (arith, le, long)) in
      let e = coefficient_plus K (shifted m L) d in
      omega (arith, ints, a, b, c, e)
]

pub differences_same :
    (v K L : List ℤ) (m : ℕ) → length v ≡ max (length K) (m + length L)
    → ((x : ℕ) → x < length v → get_or v x (pos 0) ≡ get_or (minus K (shifted m L)) x (pos 0)) → HaveSameCoefficients v (minus K (shifted m L))
differences_same v K L m long h d = elim (cases_lt d (length v)) [
  | inl lt ↦ h d lt
  | inr le ↦
      let a = get_or_past v d (pos 0) le in
      let b = get_or_past K d (pos 0) (omega (arith, le, long)) in
      let c = shifted_past L m d (omega (arith, le, long)) in
      let e = coefficient_minus K (shifted m L) d in
      omega (arith, ints, a, b, c, e)
]

pub pushed_length : (xs ys : List ℤ) (v : ℤ) (d : ℕ) → ys ≡ xs ++ (v ∷ []) → length xs ≡ d → length ys ≡ d + 1
pushed_length xs ys v d e l = ap length e ∙ longer xs ∙ ap (λ k. k + 1) l
  where
    longer : (xs : List ℤ) → length (xs ++ (v ∷ [])) ≡ length xs + 1
    longer [] = refl
    longer (x ∷ xs) = let r = longer xs in omega (arith, r)

at_last : (xs : List ℤ) (v : ℤ) (x : ℕ) → x < length xs → get_or (xs ++ (v ∷ [])) x (pos 0) ≡ get_or xs x (pos 0)
at_last [] v x lt = absurd (omega (arith, lt))
at_last (y ∷ xs) v zero lt = refl
at_last (y ∷ xs) v (suc x) lt = at_last xs v x (omega (arith, lt))

at_end : (xs : List ℤ) (v : ℤ) → get_or (xs ++ (v ∷ [])) (length xs) (pos 0) ≡ v
at_end [] v = refl
at_end (y ∷ xs) v = at_end xs v

pub pushed_places :
    (xs ys K : List ℤ) (v : ℤ) (d : ℕ) → ys ≡ xs ++ (v ∷ []) → length xs ≡ d → v ≡ get_or K d (pos 0)
    → ((x : ℕ) → x < d → get_or xs x (pos 0) ≡ get_or K x (pos 0)) → (x : ℕ) → x < d + 1 → get_or ys x (pos 0) ≡ get_or K x (pos 0)
pushed_places xs ys K v d e l q h x lt = ap (λ z. get_or z x (pos 0)) e ∙ elim (cases_lt x d) [
  | inl below ↦ at_last xs v x (omega (arith, below, l)) ∙ h x below
  | inr from ↦
      let s : x ≡ length xs = omega (arith, lt, from, l) in
      ap (λ k. get_or (xs ++ (v ∷ [])) k (pos 0)) s ∙ at_end xs v ∙ q ∙ ap (λ k. get_or K k (pos 0)) (let t : d ≡ x = omega (arith, lt, from) in t)
]
