-- Divisors of a least common multiple, place by place
use Rattle.std.proofs.Common.{List, [], ap, ap₂, arith, get_or, length, max, refl, suc, zero, ℕ, ◌-◌, ◌+◌, ◌<◌, ◌∷◌, ◌≡◌, ◌≤◌}
use Rattle.monomials.specs.Exponents.{Divides, cons, exponents_of, head, lcm, nil, tail}

pub divides_both :
    (n : ℕ) (ds xs ys : List ℕ) → length ds ≡ n → length xs ≡ n → length ys ≡ n
    → ((v : ℕ) → v < n → get_or ds v 0 ≤ max (get_or xs v 0) (get_or ys v 0)) → Divides (exponents_of n ds) (lcm (exponents_of n xs) (exponents_of n ys))
divides_both zero ds xs ys hd hx hy h = (nil, refl)
divides_both (suc n) [] xs ys hd hx hy h = absurd (omega arith)
divides_both (suc n) (d ∷ ds) [] ys hd hx hy h = absurd (omega arith)
divides_both (suc n) (d ∷ ds) (x ∷ xs) [] hd hx hy h = absurd (omega arith)
divides_both (suc n) (d ∷ ds) (x ∷ xs) (y ∷ ys) hd hx hy h =
    let first : d ≤ max x y = h 0 (omega arith) in
    let rest = divides_both n ds xs ys (omega arith) (omega arith) (omega arith) (λ v l. h (suc v) (omega arith)) in
    let one : (max x y - d) + d ≡ max x y = omega (arith, first) in
    (cons (max x y - d) rest.0, ap₂ cons one rest.1)

pub both_divided :
    (n : ℕ) (ds xs ys : List ℕ) → length ds ≡ n → length xs ≡ n → length ys ≡ n
    → Divides (exponents_of n ds) (lcm (exponents_of n xs) (exponents_of n ys)) → (v : ℕ) → v < n → get_or ds v 0 ≤ max (get_or xs v 0) (get_or ys v 0)
both_divided zero ds xs ys hd hx hy d v l = absurd (omega arith)
both_divided (suc n) [] xs ys hd hx hy d v l = absurd (omega arith)
both_divided (suc n) (e ∷ ds) [] ys hd hx hy d v l = absurd (omega arith)
both_divided (suc n) (e ∷ ds) (x ∷ xs) [] hd hx hy d v l = absurd (omega arith)
both_divided (suc n) (e ∷ ds) (x ∷ xs) (y ∷ ys) hd hx hy (cons m u, q) zero l = let one : m + e ≡ max x y = ap head q in omega (arith, one)
both_divided (suc n) (e ∷ ds) (x ∷ xs) (y ∷ ys) hd hx hy (cons m u, q) (suc v) l =
    both_divided n ds xs ys (omega arith) (omega arith) (omega arith) (u, ap tail q) v (omega arith)
