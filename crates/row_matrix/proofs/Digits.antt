-- Small exponents are the digits of a key's hash, which then tells the key
use Rattle.std.proofs.Common.{Bool, List, [], ap, ap₂, arith, cond, false, get_or, length, ltb, mul_comm, pow_mono, refl, subst, sym, suc, true, zero, ℕ, ◌%◌, ◌&&◌, ◌*◌, ◌+◌, ◌/◌, ◌<◌, ◌^◌, ◌∙◌, ◌∷◌, ◌≡◌, ◌≤◌}
use Rattle.std.specs.Int.Count.{count_leading_zeros}
use Rattle.std.proofs.lemmas.Nat.{leading_length, pow-add}
use Rattle.std.specs.Prelude.{fold}
use Rattle.std.proofs.Math.Nat.{mod-eq_of_lt, mul_assoc, mul-div-le, mul-le-mul, mul-le-mul_left, mul-le-mul_right, pow-le-pow_left, pow-suc, pow-zero}
use Rattle.formal_sums.specs.FormalSums.{Each}
use Rattle.row_matrix.specs.Hashes.{digit_base, hash_behind, hash_step, sums}
use Rattle.row_matrix.specs.Told.{FitsDigits}

pub digit_base_is : (n : ℕ) → digit_base n ≡ cond (ltb 12 n && ltb n 16) 7 31
unfolding digit_base
digit_base_is n = refl

-- what holds for each base
pub for_bases : (P : ℕ → Type 0) → P 31 → P 7 → (n : ℕ) → P (digit_base n)
for_bases P long short n = subst P (sym (digit_base_is n)) (by_test P long short (ltb 12 n && ltb n 16))
  where
    by_test : (P : ℕ → Type 0) → P 31 → P 7 → (b : Bool) → P (cond b 7 31)
    by_test P long short true = short
    by_test P long short false = long

pub base_small : (n : ℕ) → digit_base n ≤ 31
base_small n = for_bases (λ m. m ≤ 31) (omega arith) (omega arith) n

-- one digit more
abbrev digit : ℕ → ℕ → ℕ → ℕ
digit m a x = a * m + x

digit_from : (n a x : ℕ) → a ≤ digit (digit_base n) a x
digit_from n a x = for_bases (λ m. a ≤ a * m + x) (omega arith) (omega arith) n

-- digits behind a number make it no smaller
digits_from : (n a : ℕ) (xs : List ℕ) → a ≤ fold (digit (digit_base n)) a xs
digits_from n a [] = omega arith
digits_from n a (x ∷ xs) =
    let h : a * digit_base n + x ≤ fold (digit (digit_base n)) (digit (digit_base n) a x) xs = digits_from n (digit (digit_base n) a x) xs in
    let one : a ≤ a * digit_base n + x = digit_from n a x in
    omega (arith, h, one)

-- while they have 64 bits the hash is the number
digits_hash : (n a : ℕ) (xs : List ℕ) → fold (digit (digit_base n)) a xs < 2 ^ 64 → fold (hash_step (digit_base n)) a xs ≡ fold (digit (digit_base n)) a xs
digits_hash n a [] h = refl
digits_hash n a (x ∷ xs) h =
    let m = digit_base n in
    let le : a * m + x ≤ fold (digit m) (digit m a x) xs = digits_from n (digit m a x) xs in
    let one : (a * m) % 2 ^ 64 ≡ a * m = mod-eq_of_lt (omega (arith, le, h)) in
    let two : hash_step m a x ≡ digit m a x = ap (λ y. (y + x) % 2 ^ 64) one ∙ mod-eq_of_lt (omega (arith, le, h)) in
    ap (λ y. fold (hash_step m) y xs) two ∙ digits_hash n (digit m a x) xs h

-- a number tells its last digit and the number before it
last_digit :
    (n a b x y : ℕ) → x < digit_base n → y < digit_base n → a * digit_base n + x ≡ b * digit_base n + y → (a ≡ b) × (x ≡ y)
last_digit n a b x y =
    for_bases (λ m. x < m → y < m → a * m + x ≡ b * m + y → (a ≡ b) × (x ≡ y))
    (λ h k e. (omega (arith, h, k, e), omega (arith, h, k, e)))
    (λ h k e. (omega (arith, h, k, e), omega (arith, h, k, e)))
    n

-- numbers with as many digits are the same only where all digits are
digits_exact :
    (n a b : ℕ) (xs ys : List ℕ) → length xs ≡ length ys → Each (λ x. x < digit_base n) xs → Each (λ y. y < digit_base n) ys
    → fold (digit (digit_base n)) a xs ≡ fold (digit (digit_base n)) b ys → (a ≡ b) × (xs ≡ ys)
digits_exact n a b [] [] e h k s = (s, refl)
digits_exact n a b [] (y ∷ ys) e h k s = absurd (omega arith)
digits_exact n a b (x ∷ xs) [] e h k s = absurd (omega arith)
digits_exact n a b (x ∷ xs) (y ∷ ys) e h k s =
    let r = digits_exact n (digit (digit_base n) a x) (digit (digit_base n) b y) xs ys (omega arith) h.1 k.1 s in
    let q = last_digit n a b x y h.0 k.0 r.0 in
    (q.0, ap₂ ◌∷◌ q.1 r.1)

-- so many digits behind a number
digits_below : (m a : ℕ) (xs : List ℕ) → Each (λ x. x < m) xs → fold (digit m) a xs < (a + 1) * m ^ length xs
digits_below m a [] h =
    let one : (a + 1) * m ^ 0 ≡ (a + 1) * 1 = ap (λ p. (a + 1) * p) (pow-zero m) in
    let more : a < (a + 1) * m ^ 0 = omega (arith, one) in
    more
digits_below m a (x ∷ xs) h =
    let few : x < m = h.0 in
    let more : fold (digit m) (digit m a x) xs < (a * m + x + 1) * m ^ length xs = digits_below m (digit m a x) xs h.1 in
    let top : (a * m + x + 1) * m ^ length xs ≤ (a + 1) * m * m ^ length xs = mul-le-mul_right (m ^ length xs) (omega (arith, few)) in
    let power : (a + 1) * m * m ^ length xs ≡ (a + 1) * m ^ suc (length xs) = raise (a + 1) m (length xs) in
    let all : (a + 1) * m ^ suc (length xs) ≡ (a + 1) * m ^ length (x ∷ xs) = refl in
    omega (arith, more, top, power, all)
  where
    raise : (b m n : ℕ) → b * m * m ^ n ≡ b * m ^ suc n
    raise b m n = mul_assoc b m (m ^ n) ∙ ap (λ y. b * y) (mul_comm m (m ^ n) ∙ sym (pow-suc m n))

-- so they are a number of 64 bits where they fit
digits_room :
    (a : ℕ) (xs : List ℕ) → FitsDigits (length xs) a → Each (λ x. x < digit_base (length xs)) xs
    → fold (digit (digit_base (length xs))) a xs < 2 ^ 64
digits_room a xs fits h =
    let m = digit_base (length xs) in
    let below : fold (digit m) a xs < (a + 1) * m ^ length xs = digits_below m a xs h in
    omega (arith, below, fits)

-- two numbers, each before as many digits as fit, are the same, and so are the digits, where the hashes are
pub digits_same :
    (a b : ℕ) (xs ys : List ℕ) → FitsDigits (length xs) a → FitsDigits (length ys) b → length xs ≡ length ys
    → Each (λ x. x < digit_base (length xs)) xs → Each (λ y. y < digit_base (length ys)) ys → hash_behind a xs ≡ hash_behind b ys
    → (a ≡ b) × (xs ≡ ys)
digits_same a b xs ys fits fits' e h k s =
    let n = length xs in
    let back : length ys ≡ n = sym e in
    let h' : fold (hash_step (digit_base n)) b ys ≡ fold (digit (digit_base n)) b ys =
    digits_hash n b ys (subst (λ j. fold (digit (digit_base j)) b ys < 2 ^ 64) back (digits_room b ys fits' k)) in
    let same : fold (hash_step (digit_base n)) a xs ≡ fold (hash_step (digit_base n)) b ys =
    s ∙ ap (λ j. fold (hash_step (digit_base j)) b ys) back in
    digits_exact n a b xs ys e h (subst (λ j. Each (λ y. y < digit_base j) ys) back k)
    (sym (digits_hash n a xs (digits_room a xs fits h)) ∙ same ∙ h')

-- digits that fit behind a number fit behind a smaller one
pub fits_below : (n a b : ℕ) → a ≤ b → FitsDigits n b → FitsDigits n a
fits_below n a b le fits =
    let less : (a + 1) * digit_base n ^ n ≤ (b + 1) * digit_base n ^ n = mul-le-mul_right (digit_base n ^ n) (omega (arith, le)) in
    omega (arith, less, fits)

-- n digits have at most n times as many bits as one has
digit_bits : (m k n : ℕ) → m ≤ 2 ^ k → m ^ n ≤ 2 ^ (k * n)
digit_bits m k n le = subst (λ x. m ^ n ≤ x) (sym (powers k n)) (pow-le-pow_left {n = m} {m = 2 ^ k} le n)
  where
    powers : (k n : ℕ) → 2 ^ (k * n) ≡ (2 ^ k) ^ n
    powers k zero = let none : k * 0 ≡ 0 = omega arith in ap (λ j. 2 ^ j) none ∙ sym (pow-zero (2 ^ k))
    powers k (suc n) =
        let more : k * suc n ≡ k + k * n = omega arith in
        ap (λ j. 2 ^ j) more ∙ pow-add 2 k (k * n) ∙ ap (λ x. 2 ^ k * x) (powers k n) ∙ mul_comm (2 ^ k) ((2 ^ k) ^ n) ∙ sym (pow-suc (2 ^ k) n)

-- as many digits fit behind a number of 64 bits as their bits go into the zeros before it
pub digits_fit : (m k n a : ℕ) → m ≤ 2 ^ k → a < 2 ^ 64 → n ≤ count_leading_zeros 64 a / k → (a + 1) * m ^ n ≤ 2 ^ 64
digits_fit m k n a base lt le =
    let t = leading_length 64 a lt in
    let zeros = count_leading_zeros 64 a in
    let few : k * n ≤ k * (zeros / k) = mul-le-mul_left k le in
    let most : k * (zeros / k) ≤ zeros = mul-div-le zeros k in
    let wide : t.0 + k * n ≤ 64 = omega (arith, t.1, few, most) in
    let up : a + 1 ≤ 2 ^ t.0 = omega (arith, t.2) in
    let all : (a + 1) * m ^ n ≤ 2 ^ t.0 * 2 ^ (k * n) = mul-le-mul {n₁ = a + 1} {m₁ = m ^ n} {n₂ = 2 ^ t.0} {m₂ = 2 ^ (k * n)} up (digit_bits m k n base) in
    let joined : 2 ^ (t.0 + k * n) ≡ 2 ^ t.0 * 2 ^ (k * n) = pow-add 2 t.0 (k * n) in
    let within : 2 ^ (t.0 + k * n) ≤ 2 ^ 64 = pow_mono wide in
    omega (arith, all, joined, within)

-- exponents of a degree below the base are digits
pub digits_few : (m d : ℕ) (xs : List ℕ) → ((k : ℕ) → get_or xs k 0 ≤ d) → d < m → Each (λ x. x < m) xs
digits_few m d [] h lt = tt
digits_few m d (x ∷ xs) h lt = (omega (arith, h 0, lt), digits_few m d xs (λ k. h (suc k)) lt)

-- and those of a product
pub sums_few :
    (m d e : ℕ) (xs ys : List ℕ) → ((k : ℕ) → get_or xs k 0 ≤ d) → ((k : ℕ) → get_or ys k 0 ≤ e) → d + e < m
    → Each (λ x. x < m) (sums xs ys)
sums_few m d e [] ys h k lt = tt
sums_few m d e (x ∷ xs) [] h k lt = tt
sums_few m d e (x ∷ xs) (y ∷ ys) h k lt = (omega (arith, h 0, k 0, lt), sums_few m d e xs ys (λ i. h (suc i)) (λ i. k (suc i)) lt)
