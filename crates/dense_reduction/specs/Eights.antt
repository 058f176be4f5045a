-- Numbers for the columns of eight rows, side by side at each column
use Rattle.std.specs.Prelude.{List, get_or, length, map, ℕ, ◌<◌, ◌≡◌}
use Rattle.formal_sums.specs.FormalSums.{Each}
use Rattle.dense_reduction.specs.Dense.{HasRoom, IsDense}

-- the numbers of row j of the eight
abbrev pub lane : ℕ → List (List ℕ) → List ℕ
lane j numbers = map (λ a. get_or a j 0) numbers

-- all numbers are below the limit
abbrev pub AreDense : ℕ → List (List ℕ) → Type 0
AreDense limit numbers = (j : ℕ) → j < 8 → IsDense limit (lane j numbers)

-- for so many columns, all 0
abbrev pub AreAllIdle : ℕ → List (List ℕ) → Type 0
AreAllIdle columns numbers = (length numbers ≡ columns) × ((j : ℕ) → j < 8 → Each (λ a. a ≡ 0) (lane j numbers))

-- for so many columns, all below the limit, and 0 before column c
pub record AreCleared (p limit c columns : ℕ) (numbers : List (List ℕ)) : Type 0 where
  pub numbered : length numbers ≡ columns
  pub room : HasRoom p limit
  pub small : AreDense limit numbers
  pub cleared : (j i : ℕ) → j < 8 → i < c → get_or (lane j numbers) i 0 ≡ 0
