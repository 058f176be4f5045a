-- Quotients by multiplication with an inverse, and what they leave
use Rattle.std.proofs.Common.{ap, arith, bit_and, cond, div-mul-le_self, le-mul_of_pos_right, inl, inr, ltb, mod-eq_of_lt, mul-le-mul, mul-le-mul_left, mul-le-mul_right, nat_lt, refl, subst, sym, ℕ, ◌%◌, ◌*◌, ◌+◌, ◌-◌, ◌/◌, ◌<◌, ◌^◌, ◌∙◌, ◌≡◌, ◌≤◌}
use Rattle.std.proofs.lemmas.Bool.{cases_lt, le-ltb, lt-ltb}
use Rattle.std.proofs.lemmas.Nat.{and_mask}
use Rattle.std.proofs.Math.Nat.{add-mul-mod_self_right, lt-div-mul-add}

-- the words of a product, as far as they are kept
below_product : (h l a b u v : ℕ) → u * 2 ^ 32 ≤ h * b → v * 2 ^ 32 ≤ l * a
    → (h * a + u + v) * 2 ^ 64 ≤ (h * 2 ^ 32 + l) * (a * 2 ^ 32 + b)
below_product h l a b u v low high = omega arith

near_product : (h l a b u v : ℕ) → h * b < u * 2 ^ 32 + 2 ^ 32 → l * a < v * 2 ^ 32 + 2 ^ 32 → l < 2 ^ 32 → b < 2 ^ 32
    → (h * 2 ^ 32 + l) * (a * 2 ^ 32 + b) < (h * a + u + v + 3) * 2 ^ 64
near_product h l a b u v low high small word =
    let i : l ≤ 4294967295 = omega arith in
    let j : b ≤ 4294967295 = omega arith in
    let most : l * b ≤ 4294967295 * 4294967295 = mul-le-mul i j in
    omega arith

-- a quotient by the inverse m of p is none too great
quotient_below : (x p m q : ℕ) → q * 2 ^ 64 ≤ x * m → m * p < 2 ^ 64 → q * p ≤ x
quotient_below x p m q least inverse =
    let a : q * 2 ^ 64 * p ≤ x * m * p = mul-le-mul_right p least in
    let k : m * p ≤ 2 ^ 64 = omega arith in
    let b : x * (m * p) ≤ x * 2 ^ 64 = mul-le-mul_left x k in
    omega arith

-- and at most 4 too small
quotient_near : (x p m q : ℕ) → x < 2 ^ 64 → 0 < p → x * m < (q + 3) * 2 ^ 64 → 2 ^ 64 ≤ m * p + p → x < q * p + 4 * p
quotient_near x p m q small some most inverse =
    let k : x * m + 1 ≤ (q + 3) * 2 ^ 64 = omega arith in
    let a : (x * m + 1) * p ≤ (q + 3) * 2 ^ 64 * p = mul-le-mul_right p k in
    let b : x * 2 ^ 64 ≤ x * (m * p + p) = mul-le-mul_left x inverse in
    let l : x ≤ 18446744073709551615 = omega arith in
    let c : x * p ≤ 18446744073709551615 * p = mul-le-mul_right p l in
    omega arith

pub wrapped_difference : (x y : ℕ) → y ≤ x → x < 2 ^ 64 → (x + (2 ^ 64 - y)) % 2 ^ 64 ≡ x - y
wrapped_difference x y le small =
    let sum : x + (2 ^ 64 - y) ≡ x - y + 1 * 2 ^ 64 = omega arith in
    let less : x - y < 2 ^ 64 = omega arith in
    ap (λ n. n % 2 ^ 64) sum ∙ add-mul-mod_self_right (x - y) 1 (2 ^ 64) ∙ mod-eq_of_lt less

-- the number, less s where it is not below s
abbrev pub less_once : ℕ → ℕ → ℕ
less_once s x = cond (nat_lt x s) x (x - s)

pub once_is : (s x : ℕ) → s < 2 ^ 32 → 0 < s → x < 2 ^ 64
    → cond (ltb x ((x + (2 ^ 64 - s)) % 2 ^ 64)) x ((x + (2 ^ 64 - s)) % 2 ^ 64) ≡ less_once s x
once_is s x small some fits = elim (cases_lt x s) [
  | inl below ↦
      let less : x + (2 ^ 64 - s) < 2 ^ 64 = omega arith in
      ap (λ n. cond (ltb x n) x n) (mod-eq_of_lt less) ∙ ap (λ b. cond b x (x + (2 ^ 64 - s))) (lt-ltb x (x + (2 ^ 64 - s)) (omega arith))
      ∙ sym (ap (λ b. cond b x (x - s)) (lt-ltb x s below))
  | inr above ↦
      ap (λ n. cond (ltb x n) x n) (wrapped_difference x s above fits) ∙ ap (λ b. cond b x (x - s)) (le-ltb x (x - s) (omega arith))
      ∙ sym (ap (λ b. cond b x (x - s)) (le-ltb x s above))
]

-- what is kept of the product of x and an inverse of the words a and b, as the code computes it
abbrev pub estimate : ℕ → ℕ → ℕ → ℕ
estimate x a b =
    ((x / 2 ^ 32 * a % 2 ^ 64 + (x / 2 ^ 32 * b) % 2 ^ 64 / 2 ^ 32) % 2 ^ 64 + (bit_and x (2 ^ 32 - 1) * a) % 2 ^ 64 / 2 ^ 32) % 2 ^ 64

word_product : (x y : ℕ) → x < 2 ^ 32 → y < 2 ^ 32 → x * y < 2 ^ 64
word_product x y i j =
    let k : x ≤ 4294967295 = omega arith in
    let l : y ≤ 4294967295 = omega arith in
    let most : x * y ≤ 4294967295 * 4294967295 = mul-le-mul k l in
    omega arith

-- nothing wraps
estimate_is : (x a b : ℕ) → x < 2 ^ 64 → a < 2 ^ 32 → b < 2 ^ 32
    → x / 2 ^ 32 * a + x / 2 ^ 32 * b / 2 ^ 32 + x % 2 ^ 32 * a / 2 ^ 32 < 2 ^ 64
    → estimate x a b ≡ x / 2 ^ 32 * a + x / 2 ^ 32 * b / 2 ^ 32 + x % 2 ^ 32 * a / 2 ^ 32
estimate_is x a b fits i j small =
    let h = x / 2 ^ 32 in
    let high : x / 2 ^ 32 < 2 ^ 32 = omega arith in
    let low : x % 2 ^ 32 < 2 ^ 32 = omega arith in
    let e : x / 2 ^ 32 * a % 2 ^ 64 ≡ x / 2 ^ 32 * a = mod-eq_of_lt (word_product (x / 2 ^ 32) a high i) in
    let f : x / 2 ^ 32 * b % 2 ^ 64 ≡ x / 2 ^ 32 * b = mod-eq_of_lt (word_product (x / 2 ^ 32) b high j) in
    let g : x % 2 ^ 32 * a % 2 ^ 64 ≡ x % 2 ^ 32 * a = mod-eq_of_lt (word_product (x % 2 ^ 32) a low i) in
    let first : x / 2 ^ 32 * a + x / 2 ^ 32 * b / 2 ^ 32 < 2 ^ 64 = omega arith in
    let m : bit_and x (2 ^ 32 - 1) ≡ x % 2 ^ 32 = and_mask x 32 in
    ap (λ l. ((h * a % 2 ^ 64 + h * b % 2 ^ 64 / 2 ^ 32) % 2 ^ 64 + l * a % 2 ^ 64 / 2 ^ 32) % 2 ^ 64) m
    ∙ ap (λ y. ((y + h * b % 2 ^ 64 / 2 ^ 32) % 2 ^ 64 + x % 2 ^ 32 * a % 2 ^ 64 / 2 ^ 32) % 2 ^ 64) e
    ∙ ap (λ y. ((h * a + y / 2 ^ 32) % 2 ^ 64 + x % 2 ^ 32 * a % 2 ^ 64 / 2 ^ 32) % 2 ^ 64) f
    ∙ ap (λ y. ((h * a + h * b / 2 ^ 32) % 2 ^ 64 + y / 2 ^ 32) % 2 ^ 64) g
    ∙ ap (λ y. (y + x % 2 ^ 32 * a / 2 ^ 32) % 2 ^ 64) (mod-eq_of_lt first)
    ∙ mod-eq_of_lt small

-- what is left of x
abbrev pub rest : ℕ → ℕ → ℕ → ℕ → ℕ
rest p a b x = (x + (2 ^ 64 - estimate x a b * p % 2 ^ 64)) % 2 ^ 64

-- r is below 4 p, and x modulo p
abbrev pub IsRest : ℕ → ℕ → ℕ → Type 0
IsRest p x r = (r < 4 * p) × (r % p ≡ x % p)

-- with a quotient q that is at most 4 too small
rest_by : (p x q r : ℕ) → r ≡ x - q * p → q * p ≤ x → x < q * p + 4 * p → IsRest p x r
rest_by p x q r is least most =
    let sum : r + q * p ≡ x = omega arith in
    (omega arith, sym (add-mul-mod_self_right r q p) ∙ ap (λ n. n % p) sum)

div-add-mod-words : (x : ℕ) → x / 2 ^ 32 * 2 ^ 32 + x % 2 ^ 32 ≡ x
div-add-mod-words x = omega arith

word_above : (n : ℕ) → n < n / 2 ^ 32 * 2 ^ 32 + 2 ^ 32
word_above n = omega arith

below_by : (n k x : ℕ) → n ≤ k → k ≤ x → x < 2 ^ 64 → n < 2 ^ 64
below_by n k x i j l = omega arith

pub rest_is : (p m x : ℕ) → 1 < p → m ≡ (2 ^ 64 - 1) / p → x < 2 ^ 64 → IsRest p x (rest p (m / 2 ^ 32) (m % 2 ^ 32) x)
rest_is p m x some is fits =
    let h = x / 2 ^ 32 in
    let l = x % 2 ^ 32 in
    let a = m / 2 ^ 32 in
    let b = m % 2 ^ 32 in
    let u = h * b / 2 ^ 32 in
    let v = l * a / 2 ^ 32 in
    let q = h * a + u + v in
    let pos : 0 < p = omega arith in
    let most : m * p ≤ 18446744073709551615 = subst (λ n. n * p ≤ 18446744073709551615) (sym is) (div-mul-le_self 18446744073709551615 p) in
    let least : 18446744073709551615 < m * p + p =
    subst (λ n. 18446744073709551615 < n * p + p) (sym is) (lt-div-mul-add {a = 18446744073709551615} {b = p} pos) in
    let bound : m ≤ m * p = le-mul_of_pos_right m pos in
    let i : m / 2 ^ 32 < 2 ^ 32 = omega arith in
    let j : m % 2 ^ 32 < 2 ^ 32 = omega arith in
    let k : x % 2 ^ 32 < 2 ^ 32 = omega arith in
    let xs : h * 2 ^ 32 + l ≡ x = div-add-mod-words x in
    let ms : a * 2 ^ 32 + b ≡ m = div-add-mod-words m in
    let product : (h * 2 ^ 32 + l) * (a * 2 ^ 32 + b) ≡ x * m = ap (λ y. y * (a * 2 ^ 32 + b)) xs ∙ ap (λ y. x * y) ms in
    let low : q * 2 ^ 64 ≤ x * m =
    subst (λ n. q * 2 ^ 64 ≤ n) product (below_product h l a b u v (div-mul-le_self (h * b) (2 ^ 32)) (div-mul-le_self (l * a) (2 ^ 32))) in
    let high : x * m < (q + 3) * 2 ^ 64 =
    subst (λ n. n < (q + 3) * 2 ^ 64) product (near_product h l a b u v (word_above (h * b)) (word_above (l * a)) k j) in
    let under : q * p ≤ x = quotient_below x p m q low (omega arith) in
    let near : x < q * p + 4 * p = quotient_near x p m q fits pos high (omega arith) in
    let small : q ≤ q * p = le-mul_of_pos_right q pos in
    let lt : q < 2 ^ 64 = below_by q (q * p) x small under fits in
    let e : estimate x a b ≡ q = estimate_is x a b fits i j lt in
    let f : q * p % 2 ^ 64 ≡ q * p = mod-eq_of_lt (below_by (q * p) (q * p) x (omega arith) under fits) in
    let d : rest p a b x ≡ x - q * p =
    ap (λ y. (x + (2 ^ 64 - y * p % 2 ^ 64)) % 2 ^ 64) e ∙ ap (λ y. (x + (2 ^ 64 - y)) % 2 ^ 64) f ∙ wrapped_difference x (q * p) under fits in
    rest_by p x q (rest p a b x) d under near

-- of a number below twice s, a multiple of p
once_less : (p k s x : ℕ) → s ≡ k * p → x < s + s → (less_once s x < s) × (less_once s x % p ≡ x % p)
once_less p k s x is small = elim (cases_lt x s) [
  | inl below ↦
      let e : less_once s x ≡ x = ap (λ b. cond b x (x - s)) (lt-ltb x s below) in
      (omega arith, ap (λ n. n % p) e)
  | inr above ↦
      let e : less_once s x ≡ x - s = ap (λ b. cond b x (x - s)) (le-ltb x s above) in
      let sum : x - s + k * p ≡ x = omega arith in
      (omega arith, ap (λ n. n % p) e ∙ sym (add-mul-mod_self_right (x - s) k p) ∙ ap (λ n. n % p) sum)
]

-- two subtractions give the remainder
pub remainder_is : (p x r : ℕ) → IsRest p x r → less_once p (less_once (2 * p) r) ≡ x % p
remainder_is p x r h =
    let one = once_less p 2 (2 * p) r refl (omega (arith, h.0)) in
    let two = once_less p 1 p (less_once (2 * p) r) (omega arith) (omega (arith, one.0)) in
    sym (mod-eq_of_lt two.0) ∙ two.1 ∙ one.1 ∙ h.1
