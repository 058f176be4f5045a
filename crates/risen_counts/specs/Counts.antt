-- Counts of what happened, as of faults, stops and runs, which never fall and stand still at 2 ^ 64 - 1
use Rattle.std.specs.Prelude.{suc, zero, ℕ, ◌+◌, ◌-◌, ◌^◌, ◌≡◌, ◌≤◌, min}

-- one more than the count, which stands still at 2 ^ 64 - 1
abbrev pub next_count : ℕ → ℕ
next_count count = min (count + 1) (2 ^ 64 - 1)

-- the count went up; one that stands at 2 ^ 64 - 1 counts as risen
abbrev pub Rose : ℕ → ℕ → Type 0
Rose before now = next_count before ≤ now

-- the count after it happened so many times more
abbrev pub count_after : ℕ → ℕ → ℕ
count_after zero count = count
count_after (suc times) count = next_count (count_after times count)

-- it happened at most so many times, and each time was counted
pub record RoseAtMost (most before now : ℕ) : Type 0 where
  pub times : ℕ
  pub within : times ≤ most
  pub counted : now ≡ count_after times before
