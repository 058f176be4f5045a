-- Exponents in unary: where a monomial divides another, its word lies within the other's
use Rattle.std.proofs.Common.{List, [], arith, get_or, inl, inr, length, min, refl, subst, suc, sym, zero, ℕ, ◌*◌, ◌+◌, ◌-◌, ◌<◌, ◌∙◌, ◌∷◌, ◌≡◌, ◌≤◌, ◌⊎◌}
use Rattle.std.proofs.lemmas.Bool.{cases_lt}
use Rattle.std.proofs.lemmas.Nat.Bits.{bit_at_and, same_from_bits}
use Rattle.std.specs.Int.{bit_at}
use Rattle.std.specs.Prelude.{bit_and}
use Rattle.monomial_orders.proofs.PlaceByPlace.{of_divides}
use Rattle.monomials.specs.Exponents.{Divides, exponents_of}
use Rattle.vector_division.proofs.Masking.{all_bits, beyond}
use Rattle.vector_division.specs.Marks.{HasBits, HasBitsTo, occurs_bit}
use Rattle.symbolic_prep.specs.Unary.{HasUnaryBits, in_fours}

-- ---- the places of the exponents
pub fours_length : (m : List ℕ) → length (in_fours m) ≡ 4 * length m
fours_length [] = refl
fours_length (e ∷ m) =
    let h = fours_length m in
    omega (arith, h)

pub four_at :
    (m : List ℕ) (i : ℕ)
    → (get_or (in_fours m) (4 * i) 0 ≡ get_or m i 0) × (get_or (in_fours m) (4 * i + 1) 0 ≡ get_or m i 0 - 1)
    × (get_or (in_fours m) (4 * i + 2) 0 ≡ get_or m i 0 - 2) × (get_or (in_fours m) (4 * i + 3) 0 ≡ get_or m i 0 - 3)
four_at [] i = (beyond [] (4 * i) (omega arith), beyond [] (4 * i + 1) (omega arith), beyond [] (4 * i + 2) (omega arith), beyond [] (4 * i + 3) (omega arith))
four_at (e ∷ m) zero = (refl, refl, refl, refl)
four_at (e ∷ m) (suc i) =
    let h = four_at m i in
    let p : suc (suc (suc (suc (4 * i)))) ≡ 4 * suc i = omega arith in
    let q : suc (suc (suc (suc (4 * i + 1)))) ≡ 4 * suc i + 1 = omega arith in
    let r : suc (suc (suc (suc (4 * i + 2)))) ≡ 4 * suc i + 2 = omega arith in
    let s : suc (suc (suc (suc (4 * i + 3)))) ≡ 4 * suc i + 3 = omega arith in (
      subst (λ z. get_or (in_fours (e ∷ m)) z 0 ≡ get_or m i 0) p h.0,
      subst (λ z. get_or (in_fours (e ∷ m)) z 0 ≡ get_or m i 0 - 1) q h.1,
      subst (λ z. get_or (in_fours (e ∷ m)) z 0 ≡ get_or m i 0 - 2) r h.2,
      subst (λ z. get_or (in_fours (e ∷ m)) z 0 ≡ get_or m i 0 - 3) s h.3,
    )

-- all bits were set
pub unary_all : (m : List ℕ) (word i : ℕ) → i ≡ min (length m) 16 → HasBitsTo (in_fours m) word (4 * i) → HasUnaryBits m word
unary_all m word i e h =
    let len = fours_length m in
    all_bits (in_fours m) word (4 * i) (omega (arith, len, e)) h

-- ---- divisors
fours_up : (d k : List ℕ) → ((i : ℕ) → get_or d i 0 ≤ get_or k i 0) → (j : ℕ) → get_or (in_fours d) j 0 ≤ get_or (in_fours k) j 0
fours_up [] k h zero = omega arith
fours_up [] k h (suc j) = omega arith
fours_up (x ∷ d) [] h zero = h 0
fours_up (x ∷ d) [] h (suc zero) =
    let a : x ≤ 0 = h 0 in
    omega (arith, a)
fours_up (x ∷ d) [] h (suc (suc zero)) =
    let a : x ≤ 0 = h 0 in
    omega (arith, a)
fours_up (x ∷ d) [] h (suc (suc (suc zero))) =
    let a : x ≤ 0 = h 0 in
    omega (arith, a)
fours_up (x ∷ d) [] h (suc (suc (suc (suc j)))) =
    let a = fours_up d [] (λ i. h (suc i)) j in
    let b : get_or (in_fours []) j 0 ≡ 0 = beyond [] j (omega arith) in
    omega (arith, a, b)
fours_up (x ∷ d) (y ∷ k) h zero = h 0
fours_up (x ∷ d) (y ∷ k) h (suc zero) =
    let a : x ≤ y = h 0 in
    omega (arith, a)
fours_up (x ∷ d) (y ∷ k) h (suc (suc zero)) =
    let a : x ≤ y = h 0 in
    omega (arith, a)
fours_up (x ∷ d) (y ∷ k) h (suc (suc (suc zero))) =
    let a : x ≤ y = h 0 in
    omega (arith, a)
fours_up (x ∷ d) (y ∷ k) h (suc (suc (suc (suc j)))) = fours_up d k (λ i. h (suc i)) j

both_bits : (a b : ℕ) → a ≤ b → min (occurs_bit a) (occurs_bit b) ≡ occurs_bit a
both_bits zero b le = omega arith
both_bits (suc a) zero le = absurd (omega arith)
both_bits (suc a) (suc b) le = omega arith

bits_up : (d k : List ℕ) (x y : ℕ) → HasBits d x → HasBits k y → ((i : ℕ) → get_or d i 0 ≤ get_or k i 0) → bit_and x y ≡ x
bits_up d k x y hx hy le = same_from_bits (bit_and x y) x (λ i. bit_at_and x y i ∙ at i (cases_lt i 64))
  where
    at : (i : ℕ) → (i < 64) ⊎ (64 ≤ i) → min (bit_at x i) (bit_at y i) ≡ bit_at x i
    at i (inl lt) = rw (hx.low i lt, hy.low i lt) (both_bits (get_or d i 0) (get_or k i 0) (le i))
    at i (inr ge) = rw (hx.high i ge, hy.high i ge) (omega arith)

-- the word of a divisor is within that of its multiple
pub unary_within :
    (n : ℕ) (d k : List ℕ) (x y : ℕ)
    → length d ≡ n → length k ≡ n → HasUnaryBits d x → HasUnaryBits k y → Divides (exponents_of n d) (exponents_of n k) → bit_and x y ≡ x
unary_within n d k x y a b hx hy divides = bits_up (in_fours d) (in_fours k) x y hx hy (fours_up d k (λ i. places i (cases_lt i n)))
  where
    places : (i : ℕ) → (i < n) ⊎ (n ≤ i) → get_or d i 0 ≤ get_or k i 0
    places i (inl lt) = of_divides n d k a b divides i lt
    places i (inr ge) =
        let none : get_or d i 0 ≡ 0 = beyond d i (subst (λ z. z ≤ i) (sym a) ge) in
        omega (arith, none)
