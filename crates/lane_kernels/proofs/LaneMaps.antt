-- What the operations on vectors compute, as a function of each lane
use Rattle.std.proofs.Common.{Fits, List, [], ap, arith, bit_and, cond, length, ltb, map, refl, subst, suc, suc-ne-zero, sym, w64, zero, ℕ, ◌%◌, ◌*◌, ◌+◌, ◌-◌, ◌/◌, ◌<◌, ◌^◌, ◌∙◌, ◌∷◌, ◌≡◌, ◌≤◌}
use Rattle.std.specs.Prelude.{replicate}
use Rattle.std.specs.Simd.Lanes.{Each1, Each2, chunk, put_chunk, zip2}
use lib.Lanes.{sel_l, top}
use Rattle.std.proofs.lemmas.Simd.{get_or-chunk, length-chunk, tops_compared}
use Rattle.std.proofs.lemmas.List.{get_or-map, length-map}
use Rattle.lane_kernels.proofs.Barrett.{IsRest, less_once, once_is, remainder_is, rest, rest_is}
use Rattle.lane_kernels.proofs.Done.{IsDoneBelow, eight_done}

abbrev sums : List ℕ → List ℕ → List ℕ
sums xs ys = zip2 (λ a b. (a + b) % 2 ^ 64) xs ys

abbrev differences : List ℕ → List ℕ → List ℕ
differences xs ys = zip2 (λ a b. (a + (2 ^ 64 - b)) % 2 ^ 64) xs ys

abbrev products : List ℕ → List ℕ → List ℕ
products xs ys = zip2 (λ a b. (a * b) % 2 ^ 64) xs ys

abbrev shifted : List ℕ → List ℕ → List ℕ
shifted xs ys = zip2 (λ a b. a / 2 ^ b) xs ys

-- what is left of n numbers, as the operations compute it
abbrev pub rest_lanes : ℕ → ℕ → ℕ → ℕ → List ℕ → List ℕ
rest_lanes p a b n xs =
    let word = replicate n 32 in
    let high = shifted xs word in
    let low = zip2 bit_and xs (replicate n 4294967295) in
    differences xs (products (sums (sums (products high (replicate n a)) (shifted (products high (replicate n b)) word))
    (shifted (products low (replicate n a)) word)) (replicate n p))

pub rests_are : (p a b n : ℕ) (xs : List ℕ) → length xs ≡ n → rest_lanes p a b n xs ≡ map (rest p a b) xs
rests_are p a b n [] long = refl
rests_are p a b zero (x ∷ xs) long = absurd (suc-ne-zero (length xs) long)
rests_are p a b (suc n) (x ∷ xs) long =
    let less : suc (length xs) ≡ suc n = long in
    ap (λ rs. rest p a b x ∷ rs) (rests_are p a b n xs (omega arith))

pub all_rests : (p m : ℕ) (xs : List ℕ) → 1 < p → m ≡ (2 ^ 64 - 1) / p → Each1 (Fits w64) xs
    → Each2 (IsRest p) xs (map (rest p (m / 2 ^ 32) (m % 2 ^ 32)) xs)
all_rests p m [] some is fits = tt
all_rests p m (x ∷ xs) some is fits = (rest_is p m x some is fits.0.fits, all_rests p m xs some is fits.1)

-- the lesser of each number and what is left of it when s is taken away
chosen_are : (s n : ℕ) (xs : List ℕ) → length xs ≡ n → s < 2 ^ 32 → 0 < s → Each1 (Fits w64) xs
    → sel_l (zip2 ltb xs (differences xs (replicate n s))) xs (differences xs (replicate n s)) ≡ map (less_once s) xs
chosen_are s n [] long small some fits = refl
chosen_are s zero (x ∷ xs) long small some fits = absurd (suc-ne-zero (length xs) long)
chosen_are s (suc n) (x ∷ xs) long small some fits =
    let less : suc (length xs) ≡ suc n = long in
    let first = once_is s x small some fits.0.fits in
    let others = chosen_are s n xs (omega arith) small some fits.1 in cc

pub once_are : (s n : ℕ) (xs : List ℕ) → length xs ≡ n → s < 2 ^ 32 → 0 < s → Each1 (Fits w64) xs
    → sel_l (map (top 63) (zip2 (λ a b. cond (ltb a b) (2 ^ 64 - 1) 0) xs (differences xs (replicate n s)))) xs (differences xs (replicate n s))
    ≡ map (less_once s) xs
once_are s n xs long small some fits =
    ap (λ ms. sel_l ms xs (differences xs (replicate n s))) (tops_compared w64 ltb xs (differences xs (replicate n s)))
    ∙ chosen_are s n xs long small some fits

pub remainders_are : (p : ℕ) (xs rs : List ℕ) → length rs ≡ length xs → Each2 (IsRest p) xs rs
    → map (less_once p) (map (less_once (2 * p)) rs) ≡ map (λ x. x % p) xs
remainders_are p [] [] long each = refl
remainders_are p [] (r ∷ rs) long each = absurd (suc-ne-zero (length rs) long)
remainders_are p (x ∷ xs) [] long each = absurd (suc-ne-zero (length xs) (sym long))
remainders_are p (x ∷ xs) (r ∷ rs) long each =
    let less : suc (length rs) ≡ suc (length xs) = long in
    let first = remainder_is p x r each.0 in
    let others = remainders_are p xs rs (omega arith) each.1 in cc

-- what is done at a place: the remainder by p is taken
abbrev pub remainder_by : ℕ → ℕ → ℕ → ℕ
remainder_by p i a = a % p

-- eight remainders more
pub remainders_done : (p modulus at next : ℕ) (old now new : List ℕ) → modulus ≡ p → next ≡ at + 8 → next ≤ length old
    → new ≡ put_chunk at now (map (λ x. x % modulus) (chunk at 8 now))
    → IsDoneBelow at (remainder_by p) old now → IsDoneBelow next (remainder_by p) old new
remainders_done p modulus at next old now new same e room is d =
    let xs = chunk at 8 now in
    let l : length xs ≡ 8 = length-chunk at 8 now (omega (arith, d.count)) in
    let by = λ (m x : ℕ). x % m in
    subst (IsDoneBelow next (remainder_by p) old) (sym (is ∙ ap (λ m. put_chunk at now (map (by m) xs)) same))
    (eight_done (remainder_by p) at next old now (map (by p) xs) e room (length-map xs (by p) ∙ l)
    (λ j lt. get_or-map (by p) xs j 0 0 (omega arith) ∙ ap (λ x. x % p) (get_or-chunk at 8 now j 0 lt)) d)
