-- A list that has 1 and the multiples of its items has each standard monomial
use Rattle.std.proofs.Common.{List, ap, ap₂, arith, get_or, length, refl, subst, suc, sym, zero, ℕ, ◌+◌, ◌<◌, ◌∙◌, ◌≡◌, ◌≤◌}
use Rattle.monomials.proofs.Monomials.{times-unit, times_assoc}
use Rattle.monomials.specs.Exponents.{Divides, Exponents, cons, nil, times, unit}
use Rattle.change_laws.proofs.Pigeons.{pigeons}
use Rattle.change_laws.specs.Standard.{AreDistinct, AreStandard, Has, HasMany, IsStandard, power}

-- each monomial is made of variables
pub by_variables :
    (n : ℕ) (P : Exponents n → Type 0) → P (unit n)
    → ((m : Exponents n) (i : ℕ) → i < n → P m → P (times (power n i 1) m)) → (m : Exponents n) → P m
by_variables zero P one more nil = one
by_variables (suc n) P one more (cons a v) = first (by_variables n (λ w. P (cons 0 w)) one others v) a
  where
    others : (w : Exponents n) (i : ℕ) → i < n → P (cons 0 w) → P (cons 0 (times (power n i 1) w))
    others w i lt h = subst P (ap₂ cons (omega arith) refl) (more (cons 0 w) (suc i) (omega arith) h)

    first : P (cons 0 v) → (a : ℕ) → P (cons a v)
    first h zero = h
    first h (suc a) = subst P (ap₂ cons (omega arith) (times-unit v)) (more (cons a v) zero (omega arith) (first h a))

-- divisors of standard monomials are standard
pub standard_divisor :
    {n : ℕ} (L : List (Exponents n)) (t m : Exponents n) → IsStandard L (times t m) → IsStandard L m
standard_divisor {n} L t m h k lt (q, e) = h k lt (times t q, times_assoc t q (get_or L k (unit n)) ∙ ap (times t) e)

pub all_listed :
    {n : ℕ} (L ms : List (Exponents n))
    → (IsStandard L (unit n) → Has ms (unit n))
    → ((k i : ℕ) → k < length ms → i < n → IsStandard L (times (power n i 1) (get_or ms k (unit n))) → Has ms (times (power n i 1) (get_or ms k (unit n))))
    → (m : Exponents n) → IsStandard L m → Has ms m
all_listed {n} L ms one more = by_variables n (λ m. IsStandard L m → Has ms m) one step
  where
    step : (m : Exponents n) (i : ℕ) → i < n → (IsStandard L m → Has ms m) → IsStandard L (times (power n i 1) m) → Has ms (times (power n i 1) m)
    step m i lt h s =
        let w : Has ms m = h (standard_divisor L (power n i 1) m s) in
        subst (λ x. Has ms (times (power n i 1) x)) w.2 (more w.0 i w.1 lt (subst (λ x. IsStandard L (times (power n i 1) x)) (sym w.2) s))

-- a list of distinct items, each of which another list has, is not longer
pub distinct_fewer :
    {n : ℕ} (xs ys : List (Exponents n)) → AreDistinct xs → ((m : Exponents n) → Has xs m → Has ys m) → length xs ≤ length ys
distinct_fewer {n} xs ys apart inside =
    pigeons (length xs) (length ys) (λ i j. get_or ys j (unit n) ≡ get_or xs i (unit n))
    (λ i lt. inside (get_or xs i (unit n)) (i, lt, refl))
    (λ i k j ik kl x y. apart i k ik kl (sym x ∙ y))

-- few are listed, so there are not many
pub few_listed :
    {n : ℕ} (L ms : List (Exponents n)) → AreStandard L ms → length ms ≤ 256 → HasMany L → ⊥
few_listed L ms h le many =
    let d = distinct_fewer many.monomials ms many.distinct (λ m w. h.all m (many.standard m w)) in
    let more = many.more in
    omega arith
