-- Tables with a flag for each pair
use Rattle.std.specs.Prelude.{Bool, List, [], cond, false, get_or, length, ltb, ℕ, ◌&&◌, ◌<◌, ◌≡◌, ◌≤◌}
use Rattle.basis_steps.specs.Criteria.{waiting}
use Rattle.basis_steps.specs.Pairs.{Pair, is_same_pair, pair_of}
use Rattle.pair_queue.specs.Rows.{FlagRowShown}

-- what contracts see of a table: for how many members it is; a row for each of them, with a flag for each of them; and what is there for more
pub record TableShown : Type 0 where
  pub members : ℕ
  pub rows : List FlagRowShown

-- for how many members it is
abbrev pub member_count : TableShown → ℕ
member_count t = t.members

-- for how many members there is room
abbrev pub room : TableShown → ℕ
room t = length t.rows

-- the flag of member c in the row of member a
abbrev pub has_at : List FlagRowShown → ℕ → ℕ → Bool
has_at rows a c = get_or (get_or rows a (record { flags = [] })).flags c false

-- the flag of a pair: in the row of the later member
abbrev pub flag_in : List FlagRowShown → Pair → Bool
flag_in rows x = ltb x.0 x.1 && has_at rows x.1 x.0

-- the flag of a pair of members
abbrev pub flag : TableShown → Pair → Bool
flag t x = ltb x.1 t.members && flag_in t.rows x

-- two tables are for as many members, and have the same flags
pub record HasSameFlags (t u : TableShown) : Type 0 where
  pub sizes : member_count u ≡ member_count t
  pub flags : (x : Pair) → flag u x ≡ flag t x

-- the flag as a number
abbrev pub flagged : (Pair → Bool) → Pair → ℕ
flagged f x = cond (f x) 1 0

-- the flags where this pair has none
abbrev pub flag_cleared : (Pair → Bool) → Pair → Pair → Bool
flag_cleared f x y = cond (is_same_pair y x) false (f y)

-- each pair that waits has its flag, and no other
pub record IsFlagTable (f : Pair → Bool) (queue : List Pair) (out : List (Pair × ℕ)) : Type 0 where
  pub flags : (x : Pair) → flagged f x ≡ waiting queue out x

-- each of the first rows is for so many members at least
abbrev pub AreWideTo : ℕ → ℕ → List FlagRowShown → Type 0
AreWideTo last count rows = (a : ℕ) (row : FlagRowShown) → a < last → row ≡ get_or rows a row → count ≤ length row.flags

-- each row is
abbrev pub AreWide : ℕ → List FlagRowShown → Type 0
AreWide count rows = AreWideTo (length rows) count rows

-- the rows are square at least, each pair has its flag in the rows of both, and there is none behind the members
pub record AreMirrored (t : TableShown) : Type 0 where
  pub enough : t.members ≤ length t.rows
  pub wide : AreWide (length t.rows) t.rows
  pub mirrored : (a c : ℕ) → has_at t.rows a c ≡ flag_in t.rows (pair_of a c)
  pub clear : (a c : ℕ) → t.members ≤ a → has_at t.rows a c ≡ false
