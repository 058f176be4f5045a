-- The ideal of x^2, x y and y^2 modulo 101: its resolution, its table and its numerator (UAG chapter 6, sections 1 to 4)
use Rattle.std.specs.Prelude.{List, [], cond, nat_eq, negsuc, pos, suc, zero, ℕ, ℤ, ◌+◌, ◌∷◌}
use Rattle.monomials.specs.Exponents.{Exponents, cons, nil}
use Rattle.formal_sums.specs.FormalSums.{FormalSum}
use Rattle.orders.specs.KeyOrders.{pot}
use Rattle.orders.specs.MonomialOrders.{grevlex}
use Rattle.bases.specs.Settings.{Setting}

-- polynomials in x and y modulo 101, by grevlex
abbrev pub square_setting : Setting 2
square_setting = record { modulus = 101; weights = []; rank = 1; compare = pot grevlex }

-- x^a y^b
abbrev pub monomial : ℕ → ℕ → Exponents 2
monomial a b = cons a (cons b nil)

-- x^2, x y, y^2
abbrev pub square_generators : List (FormalSum 2)
square_generators = (((0, monomial 2 0), 1) ∷ []) ∷ ((((0, monomial 1 1), 1) ∷ []) ∷ ((((0, monomial 0 2), 1) ∷ []) ∷ []))

-- [y, 100 x, 0] and [0, y, 100 x]
abbrev pub relations : List (FormalSum 2)
relations = (((0, monomial 0 1), 1) ∷ (((1, monomial 1 0), 100) ∷ [])) ∷ ((((1, monomial 0 1), 1) ∷ (((2, monomial 1 0), 100) ∷ [])) ∷ [])

-- the two maps
abbrev pub resolution : List (List (FormalSum 2))
resolution = square_generators ∷ (relations ∷ [])

-- one position of degree 0 at step 0, three of degree 2 at step 1, two of degree 3 at step 2
abbrev pub table : ℕ → ℕ → ℕ
table zero d = cond (nat_eq d 0) 1 0
table (suc zero) d = cond (nat_eq d 2) 3 0
table (suc (suc zero)) d = cond (nat_eq d 3) 2 0
table (suc (suc (suc k))) d = 0

-- 1 - 3 t^2 + 2 t^3
abbrev pub numerator : List ℤ
numerator = pos 1 ∷ (pos 0 ∷ (negsuc 2 ∷ (pos 2 ∷ [])))

-- the weights of x and y in a second grading
abbrev pub weights : List ℕ
weights = 1 ∷ (2 ∷ [])

-- by these, x^2, x y and y^2 have the degrees 2, 3 and 4, and their relations 4 and 5
abbrev pub weighted_table : ℕ → ℕ → ℕ
weighted_table zero d = cond (nat_eq d 0) 1 0
weighted_table (suc zero) d = cond (nat_eq d 2) 1 0 + (cond (nat_eq d 3) 1 0 + cond (nat_eq d 4) 1 0)
weighted_table (suc (suc zero)) d = cond (nat_eq d 4) 1 0 + cond (nat_eq d 5) 1 0
weighted_table (suc (suc (suc k))) d = 0

-- 1 - t^2 - t^3 + t^5
abbrev pub weighted_numerator : List ℤ
weighted_numerator = pos 1 ∷ (pos 0 ∷ (negsuc 0 ∷ (negsuc 0 ∷ (pos 0 ∷ (pos 1 ∷ [])))))
