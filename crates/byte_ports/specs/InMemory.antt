-- What a source and a sink in memory do at each call.
use Rattle.std.specs.Prelude.{ℕ, ◌-◌, ◌==◌, Bool, min, List, ◌++◌, length, take, drop}
use Rattle.std.specs.List.{list_any}
use Rattle.risen_counts.specs.Counts.{next_count}
use Rattle.byte_ports.specs.Causes.{empty_after}

-- What a source in memory does from here on: the bytes that are left, the most of them that a call moves,
-- the numbers of the calls that fail, counted from 1, and how many calls, faults and empty reads there were.
pub record Giving : Type 0 where
  pub left : List ℕ
  pub piece : ℕ
  pub failing : List ℕ
  pub calls : ℕ
  pub faults : ℕ
  pub empty : ℕ

-- What a sink in memory took, for how many bytes it still has room, and the rest as of a source.
pub record Taking : Type 0 where
  pub taken : List ℕ
  pub room : ℕ
  pub piece : ℕ
  pub failing : List ℕ
  pub calls : ℕ
  pub faults : ℕ

-- the call with this number is to fail
abbrev pub is_failing : List ℕ → ℕ → Bool
is_failing failing call = list_any (λ n. n == call) failing

-- after a read that moved so many bytes, and after one that failed
abbrev pub given : Giving → ℕ → Giving
given s count = record s { left = drop count s.left; calls = next_count s.calls; empty = empty_after s.empty count }

abbrev pub not_given : Giving → Giving
not_given s = record s { calls = next_count s.calls; faults = next_count s.faults }

-- after a write of which so many bytes were taken, and after one that failed
abbrev pub taken_of : Taking → List ℕ → ℕ → Taking
taken_of s piece count = record s { taken = s.taken ++ take count piece; room = s.room - count; calls = next_count s.calls }

abbrev pub not_taken : Taking → Taking
not_taken s = record s { calls = next_count s.calls; faults = next_count s.faults }

-- how many bytes of a piece a sink takes
abbrev pub taken_count : Taking → List ℕ → ℕ
taken_count s piece = min (min (length piece) s.piece) s.room
