-- Exponents among more variables, and back
use Rattle.std.proofs.Common.{ap, ap₂, arith, refl, suc, sym, zero, ℕ, ◌+◌, ◌<◌, ◌∙◌, ◌≡◌, ◌≤◌}
use Rattle.monomials.specs.Exponents.{Exponents, cons, head, nil, tail, times, unit}
use Rattle.monomials.proofs.Monomials.{times-unit}
use Rattle.orders.specs.MonomialOrders.{first_variables}
use Rattle.map_laws.specs.Graphs.{behind, exponents_from, fitted, variable_monomial}

-- ---- the first variables
fitted-nil : (m : ℕ) → fitted m nil ≡ unit m
fitted-nil zero = refl
fitted-nil (suc m) = ap (cons 0) (fitted-nil m)

pub fitted-unit : (n m : ℕ) → fitted m (unit n) ≡ unit m
fitted-unit zero m = fitted-nil m
fitted-unit (suc n) zero = refl
fitted-unit (suc n) (suc m) = ap (cons 0) (fitted-unit n m)

pub fitted-times : {n : ℕ} (m : ℕ) (e f : Exponents n) → fitted m (times e f) ≡ times (fitted m e) (fitted m f)
fitted-times m nil nil = fitted-nil m ∙ sym (times-unit (unit m)) ∙ ap₂ times (sym (fitted-nil m)) (sym (fitted-nil m))
fitted-times zero (cons a e) (cons b f) = refl
fitted-times (suc m) (cons a e) (cons b f) = ap (cons (a + b)) (fitted-times m e f)

-- there and back
pub fitted-fitted : {n : ℕ} (m : ℕ) (e : Exponents n) → n ≤ m → fitted n (fitted m e) ≡ e
fitted-fitted m nil h = refl
fitted-fitted zero (cons a e) h = absurd (omega arith)
fitted-fitted (suc m) (cons a e) h = ap (cons a) (fitted-fitted m e (omega arith))

fitted-variable : (n m i : ℕ) → i < n → n ≤ m → fitted m (variable_monomial n i) ≡ variable_monomial m i
fitted-variable zero m i h le = absurd (omega arith)
fitted-variable (suc n) zero i h le = absurd (omega arith)
fitted-variable (suc n) (suc m) zero h le = ap (cons 1) (fitted-unit n m)
fitted-variable (suc n) (suc m) (suc i) h le = ap (cons 0) (fitted-variable n m i (omega arith) (omega arith))

-- ---- the variables behind others
pub behind-unit : (n m k : ℕ) → behind m k (unit n) ≡ unit m
behind-unit n m zero = fitted-unit n m
behind-unit n zero (suc k) = refl
behind-unit n (suc m) (suc k) = ap (cons 0) (behind-unit n m k)

pub behind-times : {n : ℕ} (m k : ℕ) (e f : Exponents n) → behind m k (times e f) ≡ times (behind m k e) (behind m k f)
behind-times m zero e f = fitted-times m e f
behind-times zero (suc k) e f = refl
behind-times (suc m) (suc k) e f = ap₂ cons (omega arith) (behind-times m k e f)

-- a first exponent 0 is one more place
pub behind-next : {n : ℕ} (m k : ℕ) (e : Exponents n) → behind m k (cons 0 e) ≡ behind m (suc k) e
behind-next zero zero e = refl
behind-next (suc m) zero e = refl
behind-next zero (suc k) e = refl
behind-next (suc m) (suc k) e = ap (cons 0) (behind-next m k e)

-- a first exponent that is one more
pub behind-more :
    {n : ℕ} (m k a : ℕ) (e : Exponents n) → k < m → behind m k (cons (suc a) e) ≡ times (variable_monomial m k) (behind m k (cons a e))
behind-more zero k a e h = absurd (omega arith)
behind-more (suc m) zero a e h = ap₂ cons (omega arith) (sym (times-unit (fitted m e)))
behind-more (suc m) (suc k) a e h = ap₂ cons (omega arith) (behind-more m k a e (omega arith))

pub behind-variable : (n m k i : ℕ) → i < n → k + n ≤ m → behind m k (variable_monomial n i) ≡ variable_monomial m (k + i)
behind-variable n m zero i h le = fitted-variable n m i h (omega arith) ∙ ap (variable_monomial m) (omega arith)
behind-variable n zero (suc k) i h le = absurd (omega arith)
behind-variable n (suc m) (suc k) i h le =
    let q : suc (k + i) ≡ suc k + i = omega arith in
    ap (cons 0) (behind-variable n m k i h (omega arith)) ∙ ap (variable_monomial (suc m)) q

-- ---- and back
pub after-unit : (m n k : ℕ) → exponents_from n k (unit m) ≡ unit n
after-unit m n zero = fitted-unit m n
after-unit zero n (suc k) = refl
after-unit (suc m) n (suc k) = after-unit m n k

pub after-times : {m : ℕ} (n k : ℕ) (e f : Exponents m) → exponents_from n k (times e f) ≡ times (exponents_from n k e) (exponents_from n k f)
after-times n zero e f = fitted-times n e f
after-times n (suc k) nil nil = sym (times-unit (unit n))
after-times n (suc k) (cons a e) (cons b f) = after-times n k e f

pub after-behind : {n : ℕ} (m k : ℕ) (e : Exponents n) → k + n ≤ m → exponents_from n k (behind m k e) ≡ e
after-behind m zero e h = fitted-fitted m e (omega arith)
after-behind zero (suc k) e h = absurd (omega arith)
after-behind (suc m) (suc k) e h = after-behind m k e (omega arith)

-- what stands behind the first k has none of them
pub fitted-behind : {n : ℕ} (m k : ℕ) (e : Exponents n) → fitted k (behind m k e) ≡ unit k
fitted-behind m zero e = refl
fitted-behind zero (suc k) e = fitted-nil (suc k)
fitted-behind (suc m) (suc k) e = ap (cons 0) (fitted-behind m k e)

-- what has the first k alone has none behind them
pub after-fitted : {n : ℕ} (j m k : ℕ) (e : Exponents n) → n ≤ k → exponents_from j k (fitted m e) ≡ unit j
after-fitted j m k nil h = ap (exponents_from j k) (fitted-nil m) ∙ after-unit m j k
after-fitted j zero k (cons a e) h = after-unit zero j k
after-fitted j (suc m) zero (cons a e) h = absurd (omega arith)
after-fitted j (suc m) (suc k) (cons a e) h = after-fitted j m k e (omega arith)

-- what has none of the first k stands behind them
pub behind-after : {m : ℕ} (n k : ℕ) (e : Exponents m) → m ≡ k + n → first_variables k e ≡ unit m → behind m k (exponents_from n k e) ≡ e
behind-after n zero e h none = fitted-fitted n e (omega arith)
behind-after n (suc k) nil h none = absurd (omega arith)
behind-after n (suc k) (cons a e) h none = ap₂ cons (sym (ap head none)) (behind-after n k e (omega arith) (ap tail none))

none_of_none : {n : ℕ} (e : Exponents n) → first_variables 0 e ≡ unit n
none_of_none nil = refl
none_of_none (cons a e) = ap (cons 0) (none_of_none e)

pub none_behind : {n : ℕ} (m k : ℕ) (e : Exponents n) → first_variables k (behind m k e) ≡ unit m
none_behind m zero e = none_of_none (fitted m e)
none_behind zero (suc k) e = refl
none_behind (suc m) (suc k) e = ap (cons 0) (none_behind m k e)
