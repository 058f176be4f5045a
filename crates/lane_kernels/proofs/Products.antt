-- Sums of numbers and products, lane by lane
use Rattle.std.proofs.Common.{subst, sym, ◌∙◌, get_or, List, [], length, arith, refl, ap, ℕ, ◌*◌, ◌+◌, ◌<◌, ◌^◌, ◌∷◌, ◌≡◌, ◌≤◌, Fits, w64, zero, suc, suc-ne-zero, mul-le-mul}
use Rattle.std.specs.Prelude.{replicate}
use Rattle.std.specs.Simd.Lanes.{Each1, Each2, chunk, put_chunk, zip2}
use Rattle.std.proofs.lemmas.Simd.{get_or-chunk, get_or-zip2, length-chunk, length-zip2}
use Rattle.lane_kernels.proofs.Done.{IsDoneBelow, eight_done}

-- the product of two residues has room beside a number below 2^63
product_below : (c x : ℕ) → c < 2 ^ 31 → x < 2 ^ 31 → x * c < 2 ^ 62
product_below c x h k =
    let a : x ≤ 2147483647 = omega arith in
    let b : c ≤ 2147483647 = omega arith in
    let most : x * c ≤ 2147483647 * 2147483647 = mul-le-mul a b in
    omega (arith, most)

pub products_fit : (c n : ℕ) (xs : List ℕ) → c < 2 ^ 31 → Each1 (λ x. x < 2 ^ 31) xs → Each2 (λ x y. Fits w64 (x * y)) xs (replicate n c)
products_fit c n [] h k = tt
products_fit c zero (x ∷ xs) h k = tt
products_fit c (suc n) (x ∷ xs) h k = (record { fits = omega (arith, product_below c x h k.0) }, products_fit c n xs h k.1)

pub sums_fit : (c n : ℕ) (ns xs : List ℕ) → c < 2 ^ 31 → Each1 (λ a. a < 2 ^ 63) ns → Each1 (λ x. x < 2 ^ 31) xs
    → Each2 (λ a y. Fits w64 (a + y)) ns (zip2 (λ x y. x * y) xs (replicate n c))
sums_fit c n [] xs h j k = tt
sums_fit c n (a ∷ ns) [] h j k = tt
sums_fit c zero (a ∷ ns) (x ∷ xs) h j k = tt
sums_fit c (suc n) (a ∷ ns) (x ∷ xs) h j k = (record { fits = omega (arith, product_below c x h k.0, j.0) }, sums_fit c n ns xs h j.1 k.1)

pub sums_are : (c n : ℕ) (ns xs : List ℕ) → length xs ≡ n
    → zip2 (λ a y. a + y) ns (zip2 (λ x y. x * y) xs (replicate n c)) ≡ zip2 (λ a x. a + c * x) ns xs
sums_are c n [] xs l = refl
sums_are c n (a ∷ ns) [] l = refl
sums_are c zero (a ∷ ns) (x ∷ xs) l = absurd (suc-ne-zero (length xs) l)
sums_are c (suc n) (a ∷ ns) (x ∷ xs) l =
    let first : a + x * c ≡ a + c * x = omega arith in
    let less : suc (length xs) ≡ suc n = l in
    let rest = sums_are c n ns xs (omega arith) in cc

-- what is done at a place: `c` times the residue there is added
abbrev pub with_multiple : ℕ → List ℕ → ℕ → ℕ → ℕ
with_multiple c row i a = a + c * get_or row i 0

-- eight sums more
pub sums_done : (c factor at next : ℕ) (row old now new : List ℕ) → factor ≡ c → length row ≡ length old → next ≡ at + 8 → next ≤ length old
    → new ≡ put_chunk at now (zip2 (λ a x. a + factor * x) (chunk at 8 now) (chunk at 8 row))
    → IsDoneBelow at (with_multiple c row) old now → IsDoneBelow next (with_multiple c row) old new
sums_done c factor at next row old now new same long e room is d =
    let times = λ (k a x : ℕ). a + k * x in
    let ns = chunk at 8 now in
    let xs = chunk at 8 row in
    let n : length ns ≡ 8 = length-chunk at 8 now (omega (arith, d.count)) in
    let m : length xs ≡ 8 = length-chunk at 8 row (omega arith) in
    let sums : new ≡ put_chunk at now (zip2 (times c) ns xs) = is ∙ ap (λ k. put_chunk at now (zip2 (times k) ns xs)) same in
    subst (IsDoneBelow next (with_multiple c row) old) (sym sums)
    (eight_done (with_multiple c row) at next old now (zip2 (times c) ns xs) e room (length-zip2 (times c) ns xs (n ∙ sym m) ∙ n)
    (λ j lt. get_or-zip2 (times c) ns xs j 0 0 0 (omega arith) (omega arith)
    ∙ ap (λ a. a + c * get_or xs j 0) (get_or-chunk at 8 now j 0 lt) ∙ ap (λ x. get_or now (at + j) 0 + c * x) (get_or-chunk at 8 row j 0 lt)) d)
