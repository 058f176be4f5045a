-- Sums over the monomials within a bound: one entry alone, and the multiples of a monomial
use Rattle.std.proofs.Common.{Bool, add-suc, add-zero, ap, ap₂, arith, false, refl, suc, sym, true, true≢false, zero, ℕ, ◌&&◌, ◌+◌, ◌<◌, ◌∙◌, ◌≡◌, ◌≤◌}
use Rattle.std.proofs.lemmas.Bool.Decides.{nat_tests}
use Rattle.std.specs.Prelude.{nat_le}
use Rattle.monomials.proofs.Monomials.{times-unit}
use Rattle.monomials.proofs.Sums.{sum_to-add, sum_to_ext, sum_to_none, sum_to_one}
use Rattle.monomials.specs.Exponents.{Exponents, IsWithin, cons, head, nil, tail, times, unit}
use Rattle.monomials.specs.Sums.{sum_to, sum_within}
use Rattle.monomial_counts.proofs.Divisors.{divides-unit}
use Rattle.monomial_counts.specs.Counts.{is_divisor}

-- zeros at the front
sum_to_first : (x : ℕ) (f : ℕ → ℕ) → ((a : ℕ) → a < x → f a ≡ 0) → sum_to x f ≡ f x
sum_to_first zero f h = refl
sum_to_first (suc x) f h = let z = sum_to_none x f (λ a le. h a (omega arith)) in omega arith

sum_to_from : (x d : ℕ) (f : ℕ → ℕ) → ((a : ℕ) → a < x → f a ≡ 0) → sum_to (x + d) f ≡ sum_to d (λ b. f (x + b))
sum_to_from x zero f h = ap (λ z. sum_to z f) (add-zero x) ∙ sum_to_first x f h ∙ ap f (sym (add-zero x))
sum_to_from x (suc d) f h =
    ap (λ z. sum_to z f) (add-suc x d) ∙ ap₂ ◌+◌ (sum_to_from x d f h) (ap f (sym (add-suc x d)))

-- zeros at the end
pub sum_to_to : (d e : ℕ) (f : ℕ → ℕ) → ((a : ℕ) → d < a → a ≤ d + e → f a ≡ 0) → sum_to (d + e) f ≡ sum_to d f
sum_to_to d zero f h = ap (λ x. sum_to x f) (add-zero d)
sum_to_to d (suc e) f h =
    let a = sum_to_to d e f (λ b lt le. h b lt (omega arith)) in
    let b = h (suc (d + e)) (omega arith) (omega arith) in
    ap (λ z. sum_to z f) (add-suc d e) ∙ ap₂ ◌+◌ a b ∙ add-zero (sum_to d f)

-- zeros at both sides of the entries from p on
sum_to_shifted :
    (b c p : ℕ) (f : ℕ → ℕ) → ((a : ℕ) → a < p → f a ≡ 0) → ((a : ℕ) → b < a → f a ≡ 0) → ((a : ℕ) → c < a → f (p + a) ≡ 0)
    → sum_to b f ≡ sum_to c (λ a. f (p + a))
sum_to_shifted b c p f low high far =
    sym (sum_to_to b (p + c) f (λ a lt le. high a lt))
    ∙ ap (λ z. sum_to z f) (let q : b + (p + c) ≡ p + (c + b) = omega arith in q)
    ∙ sum_to_from p (c + b) f low
    ∙ sum_to_to c b (λ a. f (p + a)) (λ a lt le. far a lt)

pub sum_within_ext :
    (n b : ℕ) (f g : Exponents n → ℕ) → ((v : Exponents n) → f v ≡ g v) → sum_within n b f ≡ sum_within n b g
unfolding sum_within
sum_within_ext zero b f g h = h nil
sum_within_ext (suc n) b f g h = sum_to_ext b _ _ (λ a le. sum_within_ext n b _ _ (λ v. h (cons a v)))

pub sum_within_none : (n b : ℕ) (f : Exponents n → ℕ) → ((v : Exponents n) → f v ≡ 0) → sum_within n b f ≡ 0
unfolding sum_within
sum_within_none zero b f h = h nil
sum_within_none (suc n) b f h = sum_to_none b _ (λ a le. sum_within_none n b _ (λ v. h (cons a v)))

pub sum_within-add :
    (n b : ℕ) (f g : Exponents n → ℕ) → sum_within n b (λ v. f v + g v) ≡ sum_within n b f + sum_within n b g
unfolding sum_within
sum_within-add zero b f g = refl
sum_within-add (suc n) b f g =
    sum_to_ext b _ _ (λ a le. sum_within-add n b (λ v. f (cons a v)) (λ v. g (cons a v))) ∙ sum_to-add b _ _

pub sum_within_one :
    (n b : ℕ) (v : Exponents n) (f : Exponents n → ℕ) → IsWithin b v → ((w : Exponents n) → (w ≡ v → ⊥) → f w ≡ 0)
    → sum_within n b f ≡ f v
unfolding sum_within
sum_within_one zero b nil f i h = refl
sum_within_one (suc n) b (cons a v) f i h =
    sum_to_one b a (λ x. sum_within n b (λ w. f (cons x w))) i.0
    (λ x le ne. sum_within_none n b (λ w. f (cons x w)) (λ w. h (cons x w) (λ q. ne (ap head q))))
    ∙ sum_within_one n b v (λ w. f (cons a w)) i.1 (λ w ne. h (cons a w) (λ q. ne (ap tail q)))

not_and : (s : Bool) → (s && false) ≡ false
not_and true = refl
not_and false = refl

not_le : (p a : ℕ) → a < p → nat_le p a ≡ false
not_le p a lt = grind (arith, nat_tests)

-- where f is 0 but at multiples of m, its sum is over what m is multiplied by
pub sum_within_multiples :
    (n b c : ℕ) (m : Exponents n) (f : Exponents n → ℕ) → ((x : Exponents n) → is_divisor m x ≡ false → f x ≡ 0)
    → ((x : Exponents n) → (IsWithin b x → ⊥) → f x ≡ 0) → ((y : Exponents n) → (IsWithin c y → ⊥) → f (times m y) ≡ 0)
    → sum_within n b f ≡ sum_within n c (λ y. f (times m y))
unfolding sum_within
sum_within_multiples zero b c nil f multiples high far = refl
sum_within_multiples (suc n) b c (cons p m) f multiples high far =
    let at : (a : ℕ) → sum_within n b (λ v. f (cons (p + a) v)) ≡ sum_within n c (λ y. f (cons (p + a) (times m y))) = λ a.
    sum_within_multiples n b c m (λ v. f (cons (p + a) v))
    (λ x e. multiples (cons (p + a) x) (ap (λ s. nat_le p (p + a) && s) e ∙ not_and (nat_le p (p + a))))
    (λ x ne. high (cons (p + a) x) (λ w. ne w.1)) (λ y ne. far (cons a y) (λ w. ne w.1)) in
    sum_to_shifted b c p (λ a. sum_within n b (λ v. f (cons a v)))
    (λ a lt. sum_within_none n b _ (λ v. multiples (cons a v) (ap (λ s. s && is_divisor m v) (not_le p a lt))))
    (λ a lt. sum_within_none n b _ (λ v. high (cons a v) (λ w. let le = w.0 in absurd (omega (arith, lt, le)))))
    (λ a lt. at a ∙ sum_within_none n c _ (λ y. far (cons a y) (λ w. let le = w.0 in absurd (omega (arith, lt, le)))))
    ∙ sum_to_ext c _ _ (λ a le. at a)

-- the bound does not matter
pub sum_within_bounds :
    (n b c : ℕ) (f : Exponents n → ℕ) → ((x : Exponents n) → (IsWithin b x → ⊥) → f x ≡ 0)
    → ((x : Exponents n) → (IsWithin c x → ⊥) → f x ≡ 0) → sum_within n b f ≡ sum_within n c f
sum_within_bounds n b c f high far =
    sum_within_multiples n b c (unit n) f (λ x e. absurd (true≢false (sym (divides-unit x) ∙ e))) high
    (λ y ne. ap f (times-unit y) ∙ far y ne)
    ∙ sum_within_ext n c _ _ (λ y. ap f (times-unit y))
