-- What is done at the places of a row of numbers
use Rattle.std.specs.Prelude.{List, get_or, length, ℕ, ◌%◌, ◌*◌, ◌+◌, ◌<◌, ◌≡◌}

-- each number of the row is below the limit
abbrev pub AreNumbersBelow : ℕ → List ℕ → Type 0
AreNumbersBelow limit row = (i : ℕ) → i < length row → get_or row i 0 < limit

-- each number of new is that of old and c times the one of the row at its place
pub record AddsRow (c : ℕ) (row old new : List ℕ) : Type 0 where
  pub count : length new ≡ length old
  pub sums : (i : ℕ) → i < length old → get_or new i 0 ≡ get_or old i 0 + c * get_or row i 0

-- each number of new is what p leaves of the one of old at its place
pub record AreRemainders (p : ℕ) (old new : List ℕ) : Type 0 where
  pub count : length new ≡ length old
  pub remainders : (i : ℕ) → i < length old → get_or new i 0 ≡ get_or old i 0 % p
