-- The graph of a map, in the variables of both rings: first those of the ring to which it goes (IVA chapter 3, section 3)
use Rattle.std.specs.Prelude.{List, [], get_or, map, zero, suc, ℕ, ◌++◌, ◌-◌, ◌∷◌}
use Rattle.monomials.specs.Exponents.{Exponents, cons, nil, unit}
use Rattle.formal_sums.specs.FormalSums.{FormalSum, scale}
use Rattle.operation_laws.specs.Operations.{eliminated, listed}

-- the first m exponents, with zeros behind where there are fewer
abbrev pub fitted : {n : ℕ} → (m : ℕ) → Exponents n → Exponents m
fitted zero e = nil
fitted (suc m) nil = cons 0 (fitted m nil)
fitted (suc m) (cons a e) = cons a (fitted m e)

-- k zeros and then the exponents, m in all
abbrev pub behind : {n : ℕ} → (m k : ℕ) → Exponents n → Exponents m
behind m zero e = fitted m e
behind zero (suc k) e = nil
behind (suc m) (suc k) e = cons 0 (behind m k e)

-- the exponents from the one with index k on, n of them
abbrev pub exponents_from : {m : ℕ} → (n k : ℕ) → Exponents m → Exponents n
exponents_from n zero e = fitted n e
exponents_from n (suc k) nil = unit n
exponents_from n (suc k) (cons a e) = exponents_from n k e

-- the variable with index i
abbrev pub variable_monomial : (n i : ℕ) → Exponents n
variable_monomial zero i = nil
variable_monomial (suc n) zero = cons 1 (unit n)
variable_monomial (suc n) (suc i) = cons 0 (variable_monomial n i)

-- v in the first variables of m
abbrev pub in_first : {n : ℕ} → (m : ℕ) → FormalSum n → FormalSum m
in_first m v = map (λ t. ((t.0.0, fitted m t.0.1), t.1)) v

-- v in the variables of m behind the first n
abbrev pub in_second : {n : ℕ} → (m : ℕ) → FormalSum n → FormalSum m
in_second {n} m v = map (λ t. ((t.0.0, behind m n t.0.1), t.1)) v

-- w in the n variables behind its first n, which it has not
abbrev pub from_second : {m : ℕ} → (n : ℕ) → FormalSum m → FormalSum n
from_second n w = map (λ t. ((t.0.0, exponents_from n n t.0.1), t.1)) w

-- y_i - f_i, for the second variable y_i that stands for the one with index i
abbrev pub graph_member : {n : ℕ} → (p m : ℕ) → List (FormalSum n) → ℕ → FormalSum m
graph_member {n} p m F i = ((0, behind m n (variable_monomial n i)), 1) ∷ scale (p - 1) (unit m) (in_first m (get_or F i []))

-- y_1 - f_1, .., y_n - f_n, and the members of L in the first variables
abbrev pub graph_list : {n : ℕ} → (p m : ℕ) → (F L : List (FormalSum n)) → List (FormalSum m)
graph_list {n} p m F L = listed 0 n (graph_member p m F) ++ map (in_first m) L

-- the members of G that have the second variables alone, in n variables
abbrev pub of_second : {m : ℕ} → (n : ℕ) → List (FormalSum m) → List (FormalSum n)
of_second n G = map (from_second n) (eliminated n G)
