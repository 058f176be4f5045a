-- Sums of two lists of exponents, and comparisons of such sums
use Rattle.std.proofs.Common.{Equal, List, [], ap, ap₂, arith, drop, get_or, length, refl, suc, sym, zero, ℕ, ◌+◌, ◌<◌, ◌∙◌, ◌∷◌, ◌≡◌}
use Rattle.std.proofs.lemmas.Cmp.{nat_cmp_total, ranked, tied_itself}
use Rattle.std.specs.Ordering.{nat_cmp}
use Rattle.monomials.proofs.Weighing.{weighted_degree-times}
use Rattle.monomials.specs.Exponents.{cons, exponents_of, times, unit}
use Rattle.monomials.specs.Weights.{weighted_degree}
use Rattle.orders.specs.MonomialOrders.{lex}
use Rattle.monomial_orders.proofs.Comparing.{then_keeps}
use Rattle.induced_leads.specs.Heads.{summed}

pub length-summed : (xs es : List ℕ) → length (summed xs es) ≡ length xs
length-summed [] es = refl
length-summed (x ∷ xs) [] = ap suc (length-summed xs [])
length-summed (x ∷ xs) (e ∷ es) = ap suc (length-summed xs es)

pub summed_at : (xs es : List ℕ) (k : ℕ) → k < length xs → get_or (summed xs es) k 0 ≡ get_or xs k 0 + get_or es k 0
summed_at [] es k lt = absurd (omega arith)
summed_at (x ∷ xs) [] zero lt = omega arith
summed_at (x ∷ xs) [] (suc k) lt = summed_at xs [] k (omega arith) ∙ omega arith
summed_at (x ∷ xs) (e ∷ es) zero lt = refl
summed_at (x ∷ xs) (e ∷ es) (suc k) lt = summed_at xs es k (omega arith)

-- the product of the two monomials
pub exponents-summed :
    (n : ℕ) (xs es : List ℕ) → length xs ≡ n
    → exponents_of n (summed xs es) ≡ times (exponents_of n xs) (exponents_of n es)
exponents-summed zero xs es h = refl
exponents-summed (suc n) [] es h = absurd (omega arith)
exponents-summed (suc n) (x ∷ xs) [] h = ap₂ cons (omega arith) (exponents-summed n xs [] (omega arith))
exponents-summed (suc n) (x ∷ xs) (e ∷ es) h = ap (cons (x + e)) (exponents-summed n xs es (omega arith))

-- equal entries
pub lex_same :
    (n : ℕ) (xs ys : List ℕ) → length xs ≡ n → length ys ≡ n → ((x : ℕ) → x < n → get_or xs x 0 ≡ get_or ys x 0)
    → lex (exponents_of n xs) (exponents_of n ys) ≡ Equal
lex_same zero xs ys h k e = refl
lex_same (suc n) [] ys h k e = absurd (cc)
lex_same (suc n) (x ∷ xs) [] h k e = absurd (cc)
lex_same (suc n) (x ∷ xs) (y ∷ ys) h k e =
    let r = lex_same n xs ys (omega arith) (omega arith) (λ i lt. e (suc i) (omega arith)) in
    let d : x ≡ y = e 0 (omega arith) in
    let t : nat_cmp x y ≡ Equal = ap (nat_cmp x) (sym d) ∙ tied_itself nat_cmp_total x in
    rw t r

-- equal entries below k, and others at k
pub lex_at :
    (n : ℕ) (xs ys : List ℕ) (k : ℕ) → length xs ≡ n → length ys ≡ n → k < n
    → ((x : ℕ) → x < k → get_or xs x 0 ≡ get_or ys x 0) → (get_or xs k 0 ≡ get_or ys k 0 → ⊥)
    → lex (exponents_of n xs) (exponents_of n ys) ≡ nat_cmp (get_or xs k 0) (get_or ys k 0)
lex_at zero xs ys k h g lt e ne = absurd (omega arith)
lex_at (suc n) [] ys k h g lt e ne = absurd (cc)
lex_at (suc n) (x ∷ xs) [] k h g lt e ne = absurd (cc)
lex_at (suc n) (x ∷ xs) (y ∷ ys) zero h g lt e ne =
    then_keeps (nat_cmp x y) (lex (exponents_of n xs) (exponents_of n ys)) (λ q. ne (ranked x y Equal (sym q)))
lex_at (suc n) (x ∷ xs) (y ∷ ys) (suc k) h g lt e ne =
    let d : x ≡ y = e 0 (omega arith) in
    let t : nat_cmp x y ≡ Equal = ap (nat_cmp x) (sym d) ∙ tied_itself nat_cmp_total x in
    let r = lex_at n xs ys k (omega arith) (omega arith) (omega arith) (λ i lt'. e (suc i) (omega arith)) ne in
    rw t r

-- sums of as many exponents
pub same-sums : (a e b f : List ℕ) → length a ≡ length b → length (summed a e) ≡ length (summed b f)
same-sums a e b f h = length-summed a e ∙ h ∙ sym (length-summed b f)

-- the degree of a product
pub summed_degree : (n : ℕ) (ws xs es : List ℕ) → length xs ≡ n → weighted_degree ws (exponents_of n (summed xs es)) ≡ weighted_degree ws (exponents_of n xs) + weighted_degree ws (exponents_of n es)
summed_degree n ws xs es h = ap (weighted_degree ws) (exponents-summed n xs es h) ∙ weighted_degree-times ws (exponents_of n xs) (exponents_of n es)

-- ---- lists of exponents of any length
pub exponents-none : (n : ℕ) → exponents_of n [] ≡ unit n
exponents-none zero = refl
exponents-none (suc n) = ap (cons 0) (exponents-none n)

front : (n : ℕ) (xs : List ℕ) → exponents_of (suc n) xs ≡ cons (get_or xs 0 0) (exponents_of n (drop 1 xs))
front n [] = refl
front n (x ∷ xs) = refl

later : (xs : List ℕ) (k : ℕ) → get_or (drop 1 xs) k 0 ≡ get_or xs (suc k) 0
later [] k = refl
later (x ∷ xs) k = refl

pub places_times :
    (n : ℕ) (xs es gs : List ℕ) → ((k : ℕ) → k < n → get_or gs k 0 ≡ get_or xs k 0 + get_or es k 0)
    → exponents_of n gs ≡ times (exponents_of n xs) (exponents_of n es)
places_times zero xs es gs h = refl
places_times (suc n) xs es gs h =
    front n gs
    ∙ ap₂ cons (h 0 (omega arith)) (places_times n (drop 1 xs) (drop 1 es) (drop 1 gs) (λ k lt. later gs k ∙ h (suc k) (omega arith) ∙ sym (ap₂ ◌+◌ (later xs k) (later es k))))
    ∙ sym (ap₂ times (front n xs) (front n es))
