use Rattle.std.proofs.Common.{get_or, ℕ, ◌<◌, ◌≡◌, ◌≤◌}
use Rattle.dense_reduction.specs.Eights.{lane}
use Rattle.dense_reduction.proofs.eights.next_column_of_all.Given as goal

abbrev pub invariant-loop-c : goal.invariant-loop-c
invariant-loop-c l = (j i : ℕ) → j < 8 → l.from ≤ i → i < l.c → get_or (lane j l.numbers) i 0 ≡ 0
