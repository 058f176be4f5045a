-- A monomial is a power of a variable where its degree comes from this variable alone
use Rattle.std.proofs.Common.{List, [], ap, ap₂, arith, get_or, length, max, refl, suc, sym, zero, ℕ, ◌*◌, ◌+◌, ◌<◌, ◌∙◌, ◌∷◌, ◌≡◌, ◌≤◌, ◌↔◌}
use Rattle.monomials.proofs.Weighing.{mul_least, weighted_degree-cons, weighted_degree-unit, weighted_degree_zero}
use Rattle.monomials.specs.Exponents.{Exponents, cons, exponents_of, nil, unit}
use Rattle.monomials.specs.Weights.{first_weight, other_weights, weighted_degree}
use Rattle.change_laws.specs.Standard.{power}

abbrev pub weight : List ℕ → ℕ → ℕ
weight ws zero = first_weight ws
weight ws (suc i) = weight (other_weights ws) i

abbrev pub exponent : {n : ℕ} → Exponents n → ℕ → ℕ
exponent nil i = 0
exponent (cons a v) zero = a
exponent (cons a v) (suc i) = exponent v i

first_weight_positive : (ws : List ℕ) → 0 < first_weight ws
first_weight_positive [] = omega arith
first_weight_positive (w ∷ ws) = omega arith

pub exponent_of : (n : ℕ) (xs : List ℕ) (i : ℕ) → i < n → exponent (exponents_of n xs) i ≡ get_or xs i 0
exponent_of zero xs i lt = absurd (omega arith)
exponent_of (suc n) [] zero lt = refl
exponent_of (suc n) [] (suc i) lt = exponent_of n [] i (omega arith)
exponent_of (suc n) (x ∷ xs) zero lt = refl
exponent_of (suc n) (x ∷ xs) (suc i) lt = exponent_of n xs i (omega arith)

pub weight_is : (ws : List ℕ) (i : ℕ) → i < length ws → ((k : ℕ) → k < length ws → 0 < get_or ws k 0) → weight ws i ≡ get_or ws i 0
weight_is [] i lt pos = absurd (omega arith)
weight_is (w ∷ ws) zero lt pos = let h : 0 < w = pos zero (omega arith) in omega arith
weight_is (w ∷ ws) (suc i) lt pos = weight_is ws i (omega arith) (λ k l. pos (suc k) (omega arith))

least : {n : ℕ} (ws : List ℕ) (e : Exponents n) (i : ℕ) → weight ws i * exponent e i ≤ weighted_degree ws e
least ws nil zero = omega arith
least ws nil (suc i) = omega arith
least ws (cons a v) zero = let d = weighted_degree-cons ws a v in omega arith
least ws (cons a v) (suc i) = let d = weighted_degree-cons ws a v in let h = least (other_weights ws) v i in omega arith

pub power_of_degree :
    {n : ℕ} (ws : List ℕ) (e : Exponents n) (i : ℕ) → i < n → weighted_degree ws e ≡ weight ws i * exponent e i
    → e ≡ power n i (exponent e i)
power_of_degree ws nil i lt d = absurd (omega arith)
power_of_degree ws (cons a v) zero lt d =
    let c = weighted_degree-cons ws a v in
    ap (cons a) (weighted_degree_zero (other_weights ws) v (omega arith))
power_of_degree ws (cons a v) (suc i) lt d =
    let c = weighted_degree-cons ws a v in
    let h = least (other_weights ws) v i in
    let f = mul_least (first_weight ws) a (first_weight_positive ws) in
    ap₂ cons (omega arith) (power_of_degree (other_weights ws) v i (omega arith) (omega arith))

pub degree_of_power : (n : ℕ) (ws : List ℕ) (i a : ℕ) → i < n → weighted_degree ws (power n i a) ≡ weight ws i * a
degree_of_power zero ws i a lt = absurd (omega arith)
degree_of_power (suc n) ws zero a lt =
    let c = weighted_degree-cons ws a (unit n) in
    let u = weighted_degree-unit n (other_weights ws) in
    omega arith
degree_of_power (suc n) ws (suc i) a lt =
    let c = weighted_degree-cons ws 0 (power n i a) in
    let h = degree_of_power n (other_weights ws) i a (omega arith) in
    omega arith

pub exponent_of_power : (n i a : ℕ) → i < n → exponent (power n i a) i ≡ a
exponent_of_power zero i a lt = absurd (omega arith)
exponent_of_power (suc n) zero a lt = refl
exponent_of_power (suc n) (suc i) a lt = exponent_of_power n i a (omega arith)

-- both ways, by the exponents as a list
pub is_power :
    (n : ℕ) (ws xs : List ℕ) (i : ℕ) → length ws ≡ n → ((k : ℕ) → k < length ws → 0 < get_or ws k 0) → i < n
    → (weighted_degree ws (exponents_of n xs) ≡ get_or ws i 0 * get_or xs i 0) ↔ ((a : ℕ) × (exponents_of n xs ≡ power n i a))
is_power n ws xs i long pos lt = (forth, back)
  where
    w : weight ws i ≡ get_or ws i 0
    w = weight_is ws i (omega (arith, long, lt)) pos

    x : exponent (exponents_of n xs) i ≡ get_or xs i 0
    x = exponent_of n xs i lt

    forth : weighted_degree ws (exponents_of n xs) ≡ get_or ws i 0 * get_or xs i 0 → (a : ℕ) × (exponents_of n xs ≡ power n i a)
    forth d = (exponent (exponents_of n xs) i, power_of_degree ws (exponents_of n xs) i lt (d ∙ sym (ap₂ ◌*◌ w x)))

    back : (a : ℕ) × (exponents_of n xs ≡ power n i a) → weighted_degree ws (exponents_of n xs) ≡ get_or ws i 0 * get_or xs i 0
    back (a, e) =
        ap (weighted_degree ws) e ∙ degree_of_power n ws i a lt
        ∙ ap₂ ◌*◌ w (sym (exponent_of_power n i a lt) ∙ ap (λ y. exponent y i) (sym e) ∙ x)
