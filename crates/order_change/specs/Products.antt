-- Products of variables and the monomials of a list, each variable with the items in turn
use Rattle.std.specs.Prelude.{List, get_or, length, ℕ, ◌+◌, ◌<◌, ◌≡◌, ◌≤◌}
use Rattle.std.specs.declared.cmp.Ordering.{Ordering}
use Rattle.std.specs.declared.cmp.Ordering.TheVariants.{Less}
use Rattle.monomials.specs.Exponents.{Exponents, exponents_of, times, unit}
use Rattle.monomial_orders.specs.Kept.{IsWeighed, Monomial, monomials}
use Rattle.change_laws.specs.Standard.{power}
use Rattle.order_change.specs.declared.products.Candidate.{Candidate}

-- the product of the variable v and the item k
abbrev pub variable_product_at : (n : ℕ) → List (Exponents n) → (v k : ℕ) → Exponents n
variable_product_at n ms v k = times (power n v 1) (get_or ms k (unit n))

-- each item is below the later ones
abbrev pub IsAscending : {n : ℕ} → (Exponents n → Exponents n → Ordering) → List (Exponents n) → Type 0
IsAscending {n} compare ms = (i j : ℕ) → i < j → j < length ms → compare (get_or ms i (unit n)) (get_or ms j (unit n)) ≡ Less

-- the degrees leave room for one more variable
abbrev pub HaveRoom : List Monomial → Type 0
HaveRoom ms = (k : ℕ) (m : Monomial) → k < length ms → get_or ms k m ≡ m → m.degree ≤ 65280

-- c is the product of its variable and the item whose turn it is
pub record IsCandidate (n : ℕ) (ws : List ℕ) (list : List Monomial) (turn : ℕ → ℕ) (c : Candidate) : Type 0 where
  pub variable : c.variable < n
  pub parent : c.parent < length list
  pub turns : turn c.variable ≡ c.parent
  pub weighed : IsWeighed n ws c.monomial
  pub product : exponents_of n c.monomial.exponents ≡ variable_product_at n (monomials n list) c.variable c.parent
  pub degree : (m : Monomial) → get_or list c.parent m ≡ m → c.monomial.degree ≤ m.degree + 255

-- of the first i variables, none has its turn at a product below m
abbrev pub IsLeast : (n : ℕ) → (Exponents n → Exponents n → Ordering) → List (Exponents n) → (turn : ℕ → ℕ) → (i : ℕ) → Exponents n → Type 0
IsLeast n compare ms turn i m = (v : ℕ) → v < i → turn v < length ms → compare (variable_product_at n ms v (turn v)) m ≡ Less → ⊥

-- the first i variables have had all items
abbrev pub HadAllItems : (turn : ℕ → ℕ) → (i count : ℕ) → Type 0
HadAllItems turn i count = (v : ℕ) → v < i → count ≤ turn v
