-- Products of monomials and keys, place by place
use Rattle.std.proofs.Common.{List, [], ap, ap₂, arith, get_or, length, refl, subst, sym, ℕ, ◌%◌, ◌+◌, ◌<◌, ◌^◌, ◌∙◌, ◌∷◌, ◌≡◌}
use Rattle.std.specs.Prelude.{fold}
use Rattle.std.proofs.lemmas.List.{ext_get_or}
use Rattle.std.proofs.lemmas.Simd.{get_or-zip2, length-zip2}
use Rattle.monomials.specs.Exponents.{exponents_of, times}
use Rattle.formal_sums.specs.FormalSums.{shift}
use Rattle.monomial_orders.proofs.Over.{over_times}
use Rattle.monomial_orders.proofs.PlaceByPlace.{sums_times}
use Rattle.monomial_orders.specs.Kept.{IsWeighed, Monomial}
use Rattle.monomial_orders.specs.Monomials.{IsMonomial, IsPlaceByPlace}
use Rattle.term_lists.specs.Vectors.{key_of}
use Rattle.term_lists.specs.declared.key.Key.{Key}
use Rattle.row_matrix.proofs.Digits.{for_bases}
use Rattle.row_matrix.specs.Hashes.{digit_base, factor_hash, hash_behind, hash_of, hash_step, key_product, sums}

pub length_sums : (xs ys : List ℕ) → length xs ≡ length ys → length (sums xs ys) ≡ length xs
length_sums xs ys e = length-zip2 (λ a b. a + b) xs ys e

pub sums_at :
    (xs ys : List ℕ) (k : ℕ) → length xs ≡ length ys → k < length xs → get_or (sums xs ys) k 0 ≡ get_or xs k 0 + get_or ys k 0
sums_at xs ys k e lt = get_or-zip2 (λ a b. a + b) xs ys k 0 0 0 lt (omega (arith, e, lt))

-- a list with the sums at its places
pub sums_by_places :
    (xs ys zs : List ℕ) → length xs ≡ length ys → length zs ≡ length xs
    → ((k : ℕ) → k < length xs → get_or zs k 0 ≡ get_or xs k 0 + get_or ys k 0) → zs ≡ sums xs ys
sums_by_places xs ys zs e l h =
    ext_get_or 0 zs (sums xs ys) (l ∙ sym (length_sums xs ys e))
    (λ k lt. let inside : k < length xs = omega (arith, l, lt) in h k inside ∙ sym (sums_at xs ys k e inside))

-- hashes add up place by place
step_sum :
    (n a b c x y : ℕ) → c % 2 ^ 64 ≡ (a + b) % 2 ^ 64
    → hash_step (digit_base n) c (x + y) ≡ (hash_step (digit_base n) a x + hash_step (digit_base n) b y) % 2 ^ 64
step_sum n a b c x y e =
    for_bases (λ m. hash_step m c (x + y) ≡ (hash_step m a x + hash_step m b y) % 2 ^ 64) (omega (arith, e)) (omega (arith, e)) n

digits_sum :
    (n a b c : ℕ) (xs ys : List ℕ) → length xs ≡ length ys → c ≡ (a + b) % 2 ^ 64
    → (let step = hash_step (digit_base n) in fold step c (sums xs ys) ≡ (fold step a xs + fold step b ys) % 2 ^ 64)
digits_sum n a b c [] [] e s = s
digits_sum n a b c [] (y ∷ ys) e s = absurd (omega arith)
digits_sum n a b c (x ∷ xs) [] e s = absurd (omega arith)
digits_sum n a b c (x ∷ xs) (y ∷ ys) e s =
    let step = hash_step (digit_base n) in
    digits_sum n (step a x) (step b y) (step c (x + y)) xs ys (omega (arith, e)) (step_sum n a b c x y (omega (arith, s)))

behind_position :
    (n p : ℕ) (xs ys : List ℕ) → length xs ≡ length ys
    → (let step = hash_step (digit_base n) in fold step p ys < 2 ^ 64 → fold step p (sums xs ys) ≡ (fold step 0 xs + fold step p ys) % 2 ^ 64)
behind_position n p [] [] e lt = let small : p < 2 ^ 64 = lt in let z : p ≡ (0 + p) % 2 ^ 64 = omega (arith, small) in z
behind_position n p [] (y ∷ ys) e lt = absurd (omega arith)
behind_position n p (x ∷ xs) [] e lt = absurd (omega arith)
behind_position n p (x ∷ xs) (y ∷ ys) e lt =
    let step = hash_step (digit_base n) in
    digits_sum n (step 0 x) (step p y) (step p (x + y)) xs ys (omega (arith, e)) (step_sum n 0 p p x y (omega arith))

-- exponents of as many variables are digits to the same base
behind_sums :
    (p : ℕ) (xs ys : List ℕ) → length xs ≡ length ys → hash_behind p ys < 2 ^ 64
    → hash_behind p (sums xs ys) ≡ (hash_behind 0 xs + hash_behind p ys) % 2 ^ 64
behind_sums p xs ys e lt =
    let zs = sums xs ys in
    let step : ℕ → ℕ → ℕ → ℕ = λ j. hash_step (digit_base j) in
    let wide : length zs ≡ length ys = length_sums xs ys e ∙ e in
    ap (λ j. fold (step j) p zs) wide ∙ behind_position (length ys) p xs ys e lt
    ∙ ap (λ j. (fold (step j) 0 xs + hash_behind p ys) % 2 ^ 64) (sym e)

-- the hash of a product is the sum of the key's and what the monomial adds, in 64 bits
pub hash_sum :
    (t : Monomial) (key : Key) (added hash : ℕ) → length t.exponents ≡ length key.monomial.exponents → added ≡ factor_hash t
    → hash ≡ hash_of key → hash < 2 ^ 64 → (hash + added) % 2 ^ 64 ≡ hash_of (key_product t key)
hash_sum t key added hash e a h lt =
    let base : hash_of (key_product t key) ≡ (factor_hash t + hash_of key) % 2 ^ 64 =
    behind_sums key.position t.exponents key.monomial.exponents e (subst (λ x. x < 2 ^ 64) h lt) in
    let same : hash + added ≡ factor_hash t + hash_of key = omega (arith, a, h) in
    ap (λ x. x % 2 ^ 64) same ∙ sym base

-- what agrees with the product in position, degree and exponents is the product
pub product_exact :
    (t : Monomial) (key product : Key) → product.position ≡ key.position → product.monomial.degree ≡ t.degree + key.monomial.degree
    → product.monomial.exponents ≡ sums t.exponents key.monomial.exponents → product ≡ key_product t key
product_exact t key product p d e =
    ap₂ (λ (i : ℕ) (m : Monomial). let k : Key = record { position = i; monomial = m } in k) p
    (ap₂ (λ (x : List ℕ) (y : ℕ). let m : Monomial = record { exponents = x; degree = y } in m) e d)

-- a monomial that is the product is the product's
pub product_made :
    (t : Monomial) (key : Key) (m : Monomial) → length t.exponents ≡ length key.monomial.exponents
    → IsPlaceByPlace ◌+◌ t.exponents key.monomial.exponents m.exponents → m.degree ≡ t.degree + key.monomial.degree
    → (let k : Key = record { position = key.position; monomial = m } in k) ≡ key_product t key
product_made t key m e h d =
    product_exact t key (record { position = key.position; monomial = m }) refl d
    (sums_by_places t.exponents key.monomial.exponents m.exponents e h.variables h.places)

product_monomial :
    (n : ℕ) (t : Monomial) (key : Key) → length t.exponents ≡ n → length key.monomial.exponents ≡ n
    → IsMonomial n (times (exponents_of n t.exponents) (exponents_of n key.monomial.exponents)) (sums t.exponents key.monomial.exponents)
product_monomial n t key h k =
    let xs = t.exponents in
    let ys = key.monomial.exponents in
    let e : length xs ≡ length ys = h ∙ sym k in
    let size : length (sums xs ys) ≡ n = length_sums xs ys e ∙ h in
    record {
      variables = size;
      exponents = sums_times n xs ys (sums xs ys) h k size (λ j lt. sums_at xs ys j e (omega (arith, h, lt)));
    }

-- it stands for the product
pub key_product_key :
    (n : ℕ) (t : Monomial) (key : Key) → length t.exponents ≡ n → length key.monomial.exponents ≡ n
    → key_of n (key_product t key) ≡ shift (exponents_of n t.exponents) (key_of n key)
key_product_key n t key h k = ap (λ e. (key.position, e)) (product_monomial n t key h k).exponents

pub key_product_weighed :
    (n : ℕ) (ws : List ℕ) (t : Monomial) (key : Key) → IsWeighed n ws t → IsWeighed n ws key.monomial
    → IsWeighed n ws (key_product t key).monomial
key_product_weighed n ws t key h k =
    over_times n ws t key.monomial (key_product t key).monomial (product_monomial n t key h.variables k.variables) refl h k
