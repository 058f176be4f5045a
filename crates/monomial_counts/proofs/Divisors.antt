-- The test of divisibility is exact
use Rattle.std.proofs.Common.{ap, ap₂, arith, leb, refl, true, ℕ, ◌&&◌, ◌+◌, ◌-◌, ◌≡◌}
use Rattle.std.proofs.lemmas.Bool.Decides.{nat_tests}
use Rattle.std.specs.Cmp.Derive.{both_true}
use Rattle.std.specs.Prelude.{nat_le, ◌↔◌}
use Rattle.monomials.proofs.Monomials.{and_left, and_right}
use Rattle.monomials.specs.Exponents.{Divides, Exponents, cons, head, nil, tail, times, unit}
use Rattle.monomial_counts.specs.Counts.{is_divisor}

pub divisor_to : {n : ℕ} (m v : Exponents n) → is_divisor m v ≡ true → Divides m v
divisor_to nil nil e = (nil, refl)
divisor_to (cons a m) (cons b v) e =
    let r = divisor_to m v (and_right _ _ e) in
    (cons (b - a) r.0, ap₂ cons (le a b (and_left _ _ e)) r.1)
  where
    le : (a b : ℕ) → nat_le a b ≡ true → (b - a) + a ≡ b
    le a b e = grind (arith, nat_tests)

pub divisor_from : {n : ℕ} (m v q : Exponents n) → times q m ≡ v → is_divisor m v ≡ true
divisor_from nil nil nil e = refl
divisor_from (cons a m) (cons b v) (cons x q) e = both_true (le x a b (ap head e)) (divisor_from m v q (ap tail e))
  where
    le : (x a b : ℕ) → x + a ≡ b → nat_le a b ≡ true
    le x a b e = grind (arith, nat_tests)

pub divisor_test : {n : ℕ} (m v : Exponents n) → (is_divisor m v ≡ true) ↔ Divides m v
divisor_test m v = (divisor_to m v, λ d. divisor_from m v d.0 d.1)

-- 1 divides each monomial
pub divides-unit : {n : ℕ} (v : Exponents n) → is_divisor (unit n) v ≡ true
divides-unit nil = refl
divides-unit (cons a v) = let e : leb 0 a ≡ true = grind (arith, nat_tests) in ap₂ ◌&&◌ e (divides-unit v)
