-- The mask of the places at which one row exceeds another, and rows of divisors
use Rattle.std.proofs.Common.{Bool, List, [], ap, ap₂, arith, cond, false, get_or, inl, inr, length, lt_of_lt_of_le, ltb, max, min, mod-eq_of_lt, mul-lt-mul_of_pos_right, pow_mono, refl, subst, suc, sym, true, zero, ℕ, ◌%◌, ◌*◌, ◌+◌, ◌-◌, ◌^◌, ◌++◌, ◌<◌, ◌∙◌, ◌∷◌, ◌≡◌, ◌≤◌, ◌⊎◌}
use Rattle.std.proofs.lemmas.Bool.{cases_lt, lt-ltb, ltb-true, ltb_from_iff}
use Rattle.std.proofs.lemmas.List.{get_or_append_left, length-append, length-replicate}
use Rattle.std.proofs.lemmas.Nat.{pow-add, pow_pos}
use Rattle.std.proofs.lemmas.Nat.Bits.{bit_at_and, bit_at_cat_high, bit_at_cat_low, bit_at_or, bit_at-zero, same_from_bits}
use Rattle.std.proofs.lemmas.Simd.{Each1-zip2, Each2-all, bit_mask_l, length-zip2, mask_l-lt}
use Rattle.std.specs.Int.{bit_at}
use Rattle.std.specs.Prelude.{bit_and, bit_or, replicate}
use Rattle.std.specs.Simd.Lanes.{Each1, mask_l, zip2}
use Rattle.monomials.specs.Exponents.{Divides, Exponents, cons, exponents_of, head, lcm, nil, tail}
use Rattle.pair_updates.specs.Rows.{exceeding, exceeds_by, row}

-- ---- masks of lists one behind the other
none_beyond : (bs : List Bool) (i : ℕ) → length bs ≤ i → get_or bs i false ≡ false
none_beyond [] i le = refl
none_beyond (b ∷ bs) zero le = absurd (omega (arith, le))
none_beyond (b ∷ bs) (suc i) le = none_beyond bs i (omega (arith, le))

behind : (xs ys : List Bool) (i : ℕ) → length xs ≤ i → get_or (xs ++ ys) i false ≡ get_or ys (i - length xs) false
behind [] ys i le = ap (λ k. get_or ys k false) (omega arith)
behind (x ∷ xs) ys zero le = absurd (omega (arith, le))
behind (x ∷ xs) ys (suc i) le = behind xs ys i (omega (arith, le)) ∙ ap (λ k. get_or ys k false) (omega arith)

pub masks_joined : (xs ys : List Bool) (n : ℕ) → length xs ≡ n → n + length ys ≤ 64 → bit_or (mask_l xs) (mask_l ys * 2 ^ n % 2 ^ 64) ≡ mask_l (xs ++ ys)
masks_joined xs ys n long short =
    same_from_bits (bit_or (mask_l xs) (mask_l ys * 2 ^ n % 2 ^ 64)) (mask_l (xs ++ ys))
    (λ i. bit_at_or (mask_l xs) (mask_l ys * 2 ^ n % 2 ^ 64) i ∙ joined i (cases_lt i n) ∙ sym (bit_mask_l (xs ++ ys) i))
  where
    fits : mask_l ys * 2 ^ n < 2 ^ 64
    fits =
        let product : mask_l ys * 2 ^ n < 2 ^ length ys * 2 ^ n = mul-lt-mul_of_pos_right (mask_l-lt ys) (pow_pos n) in
        let sum : 2 ^ (length ys + n) ≤ 2 ^ 64 = pow_mono {i = length ys + n} {j = 64} (omega (arith, short)) in
        lt_of_lt_of_le product (subst (λ z. z ≤ 2 ^ 64) (pow-add 2 (length ys) n) sum)

    raised : (i : ℕ) → bit_at (mask_l ys * 2 ^ n % 2 ^ 64) i ≡ bit_at (mask_l ys * 2 ^ n + 0) i
    raised i = ap (λ z. bit_at z i) (mod-eq_of_lt fits ∙ omega arith)

    low : (i : ℕ) → i < n → bit_at (mask_l ys * 2 ^ n % 2 ^ 64) i ≡ 0
    low i lt = raised i ∙ bit_at_cat_low (mask_l ys) n 0 i lt ∙ bit_at-zero i

    high : (i : ℕ) → n ≤ i → bit_at (mask_l ys * 2 ^ n % 2 ^ 64) i ≡ bit_at (mask_l ys) (i - n)
    high i le = raised i ∙ bit_at_cat_high (mask_l ys) n 0 i (pow_pos n) le

    joined : (i : ℕ) → (i < n) ⊎ (n ≤ i) → max (bit_at (mask_l xs) i) (bit_at (mask_l ys * 2 ^ n % 2 ^ 64) i) ≡ cond (get_or (xs ++ ys) i false) 1 0
    joined i (inl lt) =
        let a = low i lt in
        let b : bit_at (mask_l xs) i ≡ cond (get_or (xs ++ ys) i false) 1 0 =
        bit_mask_l xs i ∙ ap (λ b. cond b 1 0) (sym (get_or_append_left xs ys false i (omega (arith, lt, long)))) in
        omega (arith, a, b)
    joined i (inr le) =
        let a : bit_at (mask_l xs) i ≡ 0 = bit_mask_l xs i ∙ ap (λ b. cond b 1 0) (none_beyond xs i (omega (arith, le, long))) in
        let b : bit_at (mask_l ys * 2 ^ n % 2 ^ 64) i ≡ cond (get_or (xs ++ ys) i false) 1 0 =
        high i le ∙ bit_mask_l ys (i - n)
        ∙ ap (λ b. cond b 1 0) (ap (λ k. get_or ys k false) (omega (arith, long)) ∙ sym (behind xs ys i (omega (arith, le, long)))) in
        omega (arith, a, b)

-- ---- the sixteen flags of one number
pub long_flags : (k t : ℕ) (xs ys : List ℕ) → length xs ≡ k → length ys ≡ k → length (exceeds_by k t xs ys) ≡ k
long_flags k t xs ys hx hy =
    let a = length-zip2 (λ (u e : ℕ). ltb u e) (replicate k t) (zip2 ◌-◌ xs ys) in
    let b = length-zip2 ◌-◌ xs ys in
    let c = length-replicate k t in
    omega (arith, a, b, c, hx, hy)

joined_four :
    (ps qs rs us : List Bool) (a b c d : ℕ) → length ps ≡ 16 → length qs ≡ 16 → length rs ≡ 16 → length us ≡ 16
    → a ≡ mask_l ps → b ≡ mask_l qs → c ≡ mask_l rs → d ≡ mask_l us
    → bit_or (bit_or (bit_or a (b * 2 ^ 16 % 2 ^ 64)) (c * 2 ^ 32 % 2 ^ 64)) (d * 2 ^ 48 % 2 ^ 64) ≡ mask_l (((ps ++ qs) ++ rs) ++ us)
joined_four ps qs rs us a b c d la lb lc ld ea eb ec ed =
    ap₂ (λ y z. bit_or (bit_or y (c * 2 ^ 32 % 2 ^ 64)) z) first (ap (λ z. z * 2 ^ 48 % 2 ^ 64) ed)
    ∙ ap (λ z. bit_or z (mask_l us * 2 ^ 48 % 2 ^ 64)) second
    ∙ masks_joined ((ps ++ qs) ++ rs) us 48 l012 (omega (arith, ld))
  where
    l01 : length (ps ++ qs) ≡ 32
    l01 = let e = length-append ps qs in omega (arith, e, la, lb)

    l012 : length ((ps ++ qs) ++ rs) ≡ 48
    l012 = let e = length-append (ps ++ qs) rs in omega (arith, e, l01, lc)

    first : bit_or a (b * 2 ^ 16 % 2 ^ 64) ≡ mask_l (ps ++ qs)
    first = ap₂ (λ y z. bit_or y (z * 2 ^ 16 % 2 ^ 64)) ea eb ∙ masks_joined ps qs 16 la (omega (arith, lb))

    second : bit_or (mask_l (ps ++ qs)) (c * 2 ^ 32 % 2 ^ 64) ≡ mask_l ((ps ++ qs) ++ rs)
    second = ap (λ z. bit_or (mask_l (ps ++ qs)) (z * 2 ^ 32 % 2 ^ 64)) ec ∙ masks_joined (ps ++ qs) rs 32 l01 (omega (arith, lc))

-- excesses that are told up to 4
abbrev told : List ℕ → List ℕ → List ℕ
told xs ys = zip2 (λ x y. min (x - y) 4) xs ys

pub told_length : (xs ys : List ℕ) → length xs ≡ 16 → length ys ≡ 16 → (es : List ℕ) → es ≡ told xs ys → length es ≡ 16
told_length xs ys hx hy es is =
    let a = ap length is in
    let b = length-zip2 (λ (x y : ℕ). min (x - y) 4) xs ys in
    omega (arith, a, b, hx, hy)

pub told_small : (xs ys es : List ℕ) → es ≡ told xs ys → Each1 (λ e. e < 128) es
told_small xs ys es is =
    subst (λ (zs : List ℕ). Each1 (λ e. e < 128) zs) (sym is)
    (Each1-zip2 (λ (x y : ℕ). min (x - y) 4) (λ (e : ℕ). e < 128) xs ys (Each2-all (λ (x y : ℕ). min (x - y) 4 < 128) (λ x y. omega arith) xs ys))

-- one is above the same of 0, 1, 2 and 3 as the excess itself
told_enough : (t e : ℕ) → t ≤ 3 → ltb t (min e 4) ≡ ltb t e
told_enough t e few = ltb_from_iff ((λ h. omega (arith, ltb-true t (min e 4) h)), (λ l. lt-ltb t (min e 4) (omega (arith, few, l))))

told_flags : (k t : ℕ) (xs ys : List ℕ) → t ≤ 3 → zip2 (λ u e. ltb u e) (replicate k t) (told xs ys) ≡ exceeds_by k t xs ys
told_flags zero t xs ys few = refl
told_flags (suc k) t [] ys few = refl
told_flags (suc k) t (x ∷ xs) [] few = refl
told_flags (suc k) t (x ∷ xs) (y ∷ ys) few = ap₂ (λ (b : Bool) (bs : List Bool). b ∷ bs) (told_enough t (x - y) few) (told_flags k t xs ys few)

-- which of sixteen numbers t is below
abbrev flags : ℕ → List ℕ → List Bool
flags t es = zip2 (λ u e. ltb u e) (replicate 16 t) es

pub mask_of_four :
    (xs ys : List ℕ) → length xs ≡ 16 → length ys ≡ 16 → (es : List ℕ) → es ≡ told xs ys → (a b c d : ℕ)
    → a ≡ mask_l (flags 0 es) → b ≡ mask_l (flags 1 es) → c ≡ mask_l (flags 2 es) → d ≡ mask_l (flags 3 es)
    → bit_or (bit_or (bit_or a (b * 2 ^ 16 % 2 ^ 64)) (c * 2 ^ 32 % 2 ^ 64)) (d * 2 ^ 48 % 2 ^ 64) ≡ mask_l (exceeding xs ys)
mask_of_four xs ys hx hy es is a b c d ea eb ec ed =
    joined_four (exceeds_by 16 0 xs ys) (exceeds_by 16 1 xs ys) (exceeds_by 16 2 xs ys) (exceeds_by 16 3 xs ys) a b c d
    (long_flags 16 0 xs ys hx hy) (long_flags 16 1 xs ys hx hy) (long_flags 16 2 xs ys hx hy) (long_flags 16 3 xs ys hx hy)
    (ea ∙ same 0 (omega arith)) (eb ∙ same 1 (omega arith)) (ec ∙ same 2 (omega arith)) (ed ∙ same 3 (omega arith))
  where
    same : (t : ℕ) → t ≤ 3 → mask_l (flags t es) ≡ mask_l (exceeds_by 16 t xs ys)
    same t few = ap (λ (z : List ℕ). mask_l (flags t z)) is ∙ ap mask_l (told_flags 16 t xs ys few)

-- bytes raised by 127 - t, whose sums do not wrap, are above 127 where they are above t
pub raised_flags :
    (t k : ℕ) (es : List ℕ) → t < 128 → Each1 (λ e. e < 128) es
    → zip2 (λ x y. ltb x y) (replicate k 127) (zip2 (λ x y. (x + y) % 2 ^ 8) es (replicate k (127 - t))) ≡ zip2 (λ u e. ltb u e) (replicate k t) es
raised_flags t zero [] few small = refl
raised_flags t zero (e ∷ es) few small = refl
raised_flags t (suc k) [] few small = refl
raised_flags t (suc k) (e ∷ es) few small = ap₂ (λ (b : Bool) (bs : List Bool). b ∷ bs) one (raised_flags t k es few small.1)
  where
    one : ltb 127 ((e + (127 - t)) % 2 ^ 8) ≡ ltb t e
    one =
        let fits : e + (127 - t) < 2 ^ 8 = omega (arith, small.0) in
        ap (ltb 127) (mod-eq_of_lt fits)
        ∙ ltb_from_iff ((λ h. omega (arith, few, ltb-true 127 (e + (127 - t)) h)), (λ l. lt-ltb 127 (e + (127 - t)) (omega (arith, few, l))))

-- ---- flags of which each is one of others
abbrev pub Implied : List Bool → List Bool → Type 0
Implied [] [] = Unit {0}
Implied [] (y ∷ ys) = ⊥
Implied (x ∷ xs) [] = ⊥
Implied (x ∷ xs) (y ∷ ys) = (x ≡ true → y ≡ true) × Implied xs ys

implied_behind : (xs ys us vs : List Bool) → Implied xs ys → Implied us vs → Implied (xs ++ us) (ys ++ vs)
implied_behind [] [] us vs h k = k
implied_behind [] (y ∷ ys) us vs h k = absurd h
implied_behind (x ∷ xs) [] us vs h k = absurd h
implied_behind (x ∷ xs) (y ∷ ys) us vs h k = (h.0, implied_behind xs ys us vs h.1 k)

implied_at : (xs ys : List Bool) (i : ℕ) → Implied xs ys → get_or xs i false ≡ true → get_or ys i false ≡ true
implied_at [] [] i h e = e
implied_at [] (y ∷ ys) i h e = absurd h
implied_at (x ∷ xs) [] i h e = absurd h
implied_at (x ∷ xs) (y ∷ ys) zero h e = h.0 e
implied_at (x ∷ xs) (y ∷ ys) (suc i) h e = implied_at xs ys i h.1 e

least_bit : (a b : Bool) → (a ≡ true → b ≡ true) → min (cond a 1 0) (cond b 1 0) ≡ cond a 1 0
least_bit false b h = omega arith
least_bit true b h = let e : ◌≡◌ {A = ℕ} (cond b 1 0) 1 = ap (λ z. cond z 1 0) (h refl) in omega (arith, e)

pub implied_mask : (xs ys : List Bool) → Implied xs ys → bit_and (mask_l xs) (mask_l ys) ≡ mask_l xs
implied_mask xs ys h = same_from_bits (bit_and (mask_l xs) (mask_l ys)) (mask_l xs) (λ i.
    bit_at_and (mask_l xs) (mask_l ys) i
    ∙ ap₂ min (bit_mask_l xs i) (bit_mask_l ys i)
    ∙ least_bit (get_or xs i false) (get_or ys i false) (implied_at xs ys i h)
    ∙ sym (bit_mask_l xs i))

pub implied_four :
    (xs ys us vs : List ℕ) → ((t : ℕ) → Implied (exceeds_by 16 t xs ys) (exceeds_by 16 t us vs))
    → bit_and (mask_l (exceeding xs ys)) (mask_l (exceeding us vs)) ≡ mask_l (exceeding xs ys)
implied_four xs ys us vs h = all (λ t. exceeds_by 16 t xs ys) (λ t. exceeds_by 16 t us vs) h
  where
    all : (f g : ℕ → List Bool) → ((t : ℕ) → Implied (f t) (g t))
        → bit_and (mask_l (((f 0 ++ f 1) ++ f 2) ++ f 3)) (mask_l (((g 0 ++ g 1) ++ g 2) ++ g 3)) ≡ mask_l (((f 0 ++ f 1) ++ f 2) ++ f 3)
    all f g h =
        implied_mask (((f 0 ++ f 1) ++ f 2) ++ f 3) (((g 0 ++ g 1) ++ g 2) ++ g 3)
        (implied_behind ((f 0 ++ f 1) ++ f 2) ((g 0 ++ g 1) ++ g 2) (f 3) (g 3)
        (implied_behind (f 0 ++ f 1) (g 0 ++ g 1) (f 2) (g 2) (implied_behind (f 0) (g 0) (f 1) (g 1) (h 0) (h 1)) (h 2)) (h 3))

-- what exceeds a number by more than t is at most the greater of it and of another, which exceeds it by more than t then
pub exceeds_too : (t e a b : ℕ) → e ≤ max a b → ltb t (e - b) ≡ true → ltb t (a - b) ≡ true
exceeds_too t e a b le more = lt-ltb t (a - b) (omega (arith, le, ltb-true t (e - b) more))

-- places behind the last of a short list
pub beyond : (m : List ℕ) (i : ℕ) → length m ≤ i → get_or m i 0 ≡ 0
beyond [] i le = refl
beyond (x ∷ m) zero le = absurd (omega (arith, le))
beyond (x ∷ m) (suc i) le = beyond m i (omega (arith, le))

-- ---- rows of monomials
pub row_length : {n : ℕ} (k : ℕ) (v : Exponents n) → length (row k v) ≡ k
row_length zero v = refl
row_length (suc k) nil = ap suc (row_length k nil)
row_length (suc k) (cons a v) = ap suc (row_length k v)

pub row_at : (n k : ℕ) (xs : List ℕ) (v : ℕ) → length xs ≡ n → v < k → get_or (row k (exponents_of n xs)) v 0 ≡ get_or xs v 0
row_at n zero xs v e lt = absurd (omega (arith, lt))
row_at zero (suc k) [] zero e lt = refl
row_at zero (suc k) [] (suc v) e lt = row_at zero k [] v refl (omega (arith, lt))
row_at zero (suc k) (x ∷ xs) v e lt = absurd (omega (arith, e))
row_at (suc n) (suc k) [] v e lt = absurd (omega (arith, e))
row_at (suc n) (suc k) (x ∷ xs) zero e lt = refl
row_at (suc n) (suc k) (x ∷ xs) (suc v) e lt = row_at n k xs v (omega (arith, e)) (omega (arith, lt))

-- places of a divisor of an lcm are at most those of one of the two
pub divisor_row : {n : ℕ} (k : ℕ) (d x y : Exponents n) → Divides d (lcm x y)
    → (v : ℕ) → v < k → get_or (row k d) v 0 ≤ max (get_or (row k x) v 0) (get_or (row k y) v 0)
divisor_row zero d x y h v lt = absurd (omega (arith, lt))
divisor_row (suc k) nil nil nil h zero lt = omega arith
divisor_row (suc k) nil nil nil h (suc v) lt = divisor_row k nil nil nil h v (omega (arith, lt))
divisor_row (suc k) (cons e d) (cons a x) (cons b y) (cons m u, q) zero lt = let one : m + e ≡ max a b = ap head q in omega (arith, one)
divisor_row (suc k) (cons e d) (cons a x) (cons b y) (cons m u, q) (suc v) lt = divisor_row k d x y (u, ap tail q) v (omega (arith, lt))

-- places of rows that are others
pub moved : (k a b l x y : List ℕ) (v : ℕ) → k ≡ l → a ≡ x → b ≡ y → get_or l v 0 ≤ max (get_or x v 0) (get_or y v 0)
    → get_or k v 0 ≤ max (get_or a v 0) (get_or b v 0)
moved k a b l x y v ek ea eb le =
    omega (arith, le, ap (λ (z : List ℕ). get_or z v 0) ek, ap (λ (z : List ℕ). get_or z v 0) ea, ap (λ (z : List ℕ). get_or z v 0) eb)

-- and of no more variables than places these are the divisors
pub row_divisor : (n k : ℕ) (d x y : Exponents n) → n ≤ k
    → ((v : ℕ) → v < k → get_or (row k d) v 0 ≤ max (get_or (row k x) v 0) (get_or (row k y) v 0)) → Divides d (lcm x y)
row_divisor zero k nil nil nil le h = (nil, refl)
row_divisor (suc n) zero d x y le h = absurd (omega (arith, le))
row_divisor (suc n) (suc k) (cons e d) (cons a x) (cons b y) le h =
    let first : e ≤ max a b = h 0 (omega arith) in
    let rest = row_divisor n k d x y (omega (arith, le)) (λ v l. h (suc v) (omega (arith, l))) in
    let one : (max a b - e) + e ≡ max a b = omega (arith, first) in
    (cons (max a b - e) rest.0, ap₂ cons one rest.1)

-- what a divisor exceeds by more than t, the other exceeds so too
pub divisor_exceeds : {n : ℕ} (k t : ℕ) (d x y : Exponents n) → Divides d (lcm x y)
    → Implied (exceeds_by k t (row k d) (row k y)) (exceeds_by k t (row k x) (row k y))
divisor_exceeds zero t d x y h = tt
divisor_exceeds (suc k) t nil nil nil h = ((λ e. e), divisor_exceeds k t nil nil nil h)
divisor_exceeds (suc k) t (cons e d) (cons a x) (cons b y) (cons m u, q) = (
  (λ f. let one : m + e ≡ max a b = ap head q in exceeds_too t e a b (omega (arith, one)) f),
  divisor_exceeds k t d x y (u, ap tail q),
)
