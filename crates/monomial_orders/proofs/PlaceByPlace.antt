-- Lists of exponents place by place
use Rattle.std.proofs.Common.{List, [], ap, ap₂, arith, get_or, length, max, min, refl, suc, sym, zero, ℕ, ◌+◌, ◌-◌, ◌<◌, ◌∙◌, ◌∷◌, ◌≡◌, ◌≤◌}
use Rattle.monomials.specs.Exponents.{Divides, IsWithin, cons, exponents_of, head, lcm, quotient, tail, times}
use Rattle.monomial_orders.specs.Monomials.{IsCofactor, IsMonomial, IsPlaceByPlace}

-- sums make the product
pub sums_times :
    (n : ℕ) (xs ys zs : List ℕ) → length xs ≡ n → length ys ≡ n → length zs ≡ n
    → ((k : ℕ) → k < n → get_or zs k 0 ≡ get_or xs k 0 + get_or ys k 0)
    → exponents_of n zs ≡ times (exponents_of n xs) (exponents_of n ys)
sums_times zero xs ys zs hx hy hz h = refl
sums_times (suc n) [] ys zs hx hy hz h = absurd (omega arith)
sums_times (suc n) (x ∷ xs) [] zs hx hy hz h = absurd (omega arith)
sums_times (suc n) (x ∷ xs) (y ∷ ys) [] hx hy hz h = absurd (omega arith)
sums_times (suc n) (x ∷ xs) (y ∷ ys) (z ∷ zs) hx hy hz h =
    ap₂ cons (h 0 (omega arith)) (sums_times n xs ys zs (omega arith) (omega arith) (omega arith) (λ k lt. h (suc k) (omega arith)))

-- maxima make the least common multiple
pub maxima_lcm :
    (n : ℕ) (xs ys zs : List ℕ) → length xs ≡ n → length ys ≡ n → length zs ≡ n
    → ((k : ℕ) → k < n → get_or zs k 0 ≡ max (get_or xs k 0) (get_or ys k 0))
    → exponents_of n zs ≡ lcm (exponents_of n xs) (exponents_of n ys)
maxima_lcm zero xs ys zs hx hy hz h = refl
maxima_lcm (suc n) [] ys zs hx hy hz h = absurd (omega arith)
maxima_lcm (suc n) (x ∷ xs) [] zs hx hy hz h = absurd (omega arith)
maxima_lcm (suc n) (x ∷ xs) (y ∷ ys) [] hx hy hz h = absurd (omega arith)
maxima_lcm (suc n) (x ∷ xs) (y ∷ ys) (z ∷ zs) hx hy hz h =
    ap₂ cons (h 0 (omega arith)) (maxima_lcm n xs ys zs (omega arith) (omega arith) (omega arith) (λ k lt. h (suc k) (omega arith)))

-- differences make the quotient
pub differences_quotient :
    (n : ℕ) (xs ys zs : List ℕ) → length xs ≡ n → length ys ≡ n → length zs ≡ n
    → ((k : ℕ) → k < n → get_or zs k 0 ≡ get_or xs k 0 - get_or ys k 0)
    → exponents_of n zs ≡ quotient (exponents_of n xs) (exponents_of n ys)
differences_quotient zero xs ys zs hx hy hz h = refl
differences_quotient (suc n) [] ys zs hx hy hz h = absurd (omega arith)
differences_quotient (suc n) (x ∷ xs) [] zs hx hy hz h = absurd (omega arith)
differences_quotient (suc n) (x ∷ xs) (y ∷ ys) [] hx hy hz h = absurd (omega arith)
differences_quotient (suc n) (x ∷ xs) (y ∷ ys) (z ∷ zs) hx hy hz h =
    ap₂ cons (h 0 (omega arith)) (differences_quotient n xs ys zs (omega arith) (omega arith) (omega arith) (λ k lt. h (suc k) (omega arith)))

-- and the other way round
pub of_divides :
    (n : ℕ) (xs ys : List ℕ) → length xs ≡ n → length ys ≡ n → Divides (exponents_of n xs) (exponents_of n ys) → (k : ℕ)
    → k < n → get_or xs k 0 ≤ get_or ys k 0
of_divides zero xs ys hx hy d k lt = absurd (omega arith)
of_divides (suc n) [] ys hx hy d k lt = absurd (omega arith)
of_divides (suc n) (x ∷ xs) [] hx hy d k lt = absurd (omega arith)
of_divides (suc n) (x ∷ xs) (y ∷ ys) hx hy (cons m u, e) zero lt = let q : m + x ≡ y = ap head e in omega arith
of_divides (suc n) (x ∷ xs) (y ∷ ys) hx hy (cons m u, e) (suc k) lt = of_divides n xs ys (omega arith) (omega arith) (u, ap tail e) k (omega arith)

-- the quotient times the divisor
pub quotient_times :
    (n : ℕ) (xs ys : List ℕ) → length xs ≡ n → length ys ≡ n
    → ((k : ℕ) → k < n → get_or ys k 0 ≤ get_or xs k 0)
    → times (quotient (exponents_of n xs) (exponents_of n ys)) (exponents_of n ys) ≡ exponents_of n xs
quotient_times zero xs ys hx hy h = refl
quotient_times (suc n) [] ys hx hy h = absurd (omega arith)
quotient_times (suc n) (x ∷ xs) [] hx hy h = absurd (omega arith)
quotient_times (suc n) (x ∷ xs) (y ∷ ys) hx hy h =
    let f : y ≤ x = h 0 (omega arith) in
    ap₂ cons (omega arith) (quotient_times n xs ys (omega arith) (omega arith) (λ k lt. h (suc k) (omega arith)))

-- what is at most the other's divides
pub divides_of :
    (n : ℕ) (xs ys : List ℕ) → length xs ≡ n → length ys ≡ n
    → ((k : ℕ) → k < n → get_or xs k 0 ≤ get_or ys k 0) → Divides (exponents_of n xs) (exponents_of n ys)
divides_of n xs ys hx hy h = (quotient (exponents_of n ys) (exponents_of n xs), quotient_times n ys xs hy hx h)

-- no variable in both
pub coprime_of :
    (n : ℕ) (xs ys : List ℕ) → length xs ≡ n → length ys ≡ n
    → ((k : ℕ) → k < n → min (get_or xs k 0) (get_or ys k 0) ≡ 0)
    → times (exponents_of n xs) (exponents_of n ys) ≡ lcm (exponents_of n xs) (exponents_of n ys)
coprime_of zero xs ys hx hy h = refl
coprime_of (suc n) [] ys hx hy h = absurd (omega arith)
coprime_of (suc n) (x ∷ xs) [] hx hy h = absurd (omega arith)
coprime_of (suc n) (x ∷ xs) (y ∷ ys) hx hy h =
    let f : min x y ≡ 0 = h 0 (omega arith) in
    ap₂ cons (omega arith) (coprime_of n xs ys (omega arith) (omega arith) (λ k lt. h (suc k) (omega arith)))

pub of_coprime :
    (n : ℕ) (xs ys : List ℕ) → length xs ≡ n → length ys ≡ n
    → times (exponents_of n xs) (exponents_of n ys) ≡ lcm (exponents_of n xs) (exponents_of n ys) → (k : ℕ) → k < n
    → min (get_or xs k 0) (get_or ys k 0) ≡ 0
of_coprime zero xs ys hx hy e k lt = absurd (omega arith)
of_coprime (suc n) [] ys hx hy e k lt = absurd (omega arith)
of_coprime (suc n) (x ∷ xs) [] hx hy e k lt = absurd (omega arith)
of_coprime (suc n) (x ∷ xs) (y ∷ ys) hx hy e zero lt = let q : x + y ≡ max x y = ap head e in omega arith
of_coprime (suc n) (x ∷ xs) (y ∷ ys) hx hy e (suc k) lt = of_coprime n xs ys (omega arith) (omega arith) (ap tail e) k (omega arith)

-- lists with the same exponents are one
pub exponents_exact :
    (n : ℕ) (xs ys : List ℕ) → length xs ≡ n → length ys ≡ n → exponents_of n xs ≡ exponents_of n ys → xs ≡ ys
exponents_exact zero [] [] hx hy e = refl
exponents_exact zero [] (y ∷ ys) hx hy e = absurd (omega arith)
exponents_exact zero (x ∷ xs) ys hx hy e = absurd (omega arith)
exponents_exact (suc n) [] ys hx hy e = absurd (omega arith)
exponents_exact (suc n) (x ∷ xs) [] hx hy e = absurd (omega arith)
exponents_exact (suc n) (x ∷ xs) (y ∷ ys) hx hy e = ap₂ ◌∷◌ (ap head e) (exponents_exact n xs ys (omega arith) (omega arith) (ap tail e))

-- exponents within a bound
pub exponents_within : (b n : ℕ) (xs : List ℕ) → ((k : ℕ) → get_or xs k 0 ≤ b) → IsWithin b (exponents_of n xs)
exponents_within b zero xs h = tt
exponents_within b (suc n) [] h = (omega arith, exponents_within b n [] h)
exponents_within b (suc n) (x ∷ xs) h = (h 0, exponents_within b n xs (λ k. h (suc k)))

-- the calls' answers
pub sums_monomial :
    (xs ys zs : List ℕ) → length xs ≡ length ys → IsPlaceByPlace ◌+◌ xs ys zs
    → IsMonomial (length xs) (times (exponents_of (length xs) xs) (exponents_of (length xs) ys)) zs
sums_monomial xs ys zs e h =
    record { variables = h.variables; exponents = sums_times (length xs) xs ys zs refl (sym e) h.variables h.places }

pub maxima_monomial :
    (xs ys zs : List ℕ) → length xs ≡ length ys → IsPlaceByPlace max xs ys zs
    → IsMonomial (length xs) (lcm (exponents_of (length xs) xs) (exponents_of (length xs) ys)) zs
maxima_monomial xs ys zs e h =
    record { variables = h.variables; exponents = maxima_lcm (length xs) xs ys zs refl (sym e) h.variables h.places }

-- the quotient times the divisor, in terms of the quotient's list
pub differences_cofactor :
    (xs ys zs : List ℕ) → length xs ≡ length ys
    → ((k : ℕ) → k < length xs → get_or ys k 0 ≤ get_or xs k 0) → IsPlaceByPlace ◌-◌ xs ys zs
    → IsCofactor (length xs) xs ys zs
differences_cofactor xs ys zs e le h =
    let q = differences_quotient (length xs) xs ys zs refl (sym e) h.variables h.places in
    record {
      variables = h.variables;
      exponents = q;
      product = ap (λ v. times v (exponents_of (length xs) ys)) q ∙ quotient_times (length xs) xs ys refl (sym e) le;
    }
