-- Runs of two calls that have one bound
use Rattle.std.proofs.Common.{arith, ℕ, ◌*◌, ◌≤◌}
use Rattle.risen_counts.specs.Counts.{RoseAtMost}
use Rattle.risen_counts.proofs.Counting.{at_most_both}

pub first_runs : (most before now : ℕ) → RoseAtMost most before now → RoseAtMost (2 * most) before now
first_runs most before now a = record {
  times = a.times;
  within = let few : a.times ≤ most = a.within in omega (arith, few);
  counted = a.counted;
}

pub both_runs : (most before between now : ℕ) → RoseAtMost most before between → RoseAtMost most between now → RoseAtMost (2 * most) before now
both_runs most before between now a b =
    let both = at_most_both most most before between now a b in
    record {
      times = both.times;
      within = let few = both.within in omega (arith, few);
      counted = both.counted;
    }
