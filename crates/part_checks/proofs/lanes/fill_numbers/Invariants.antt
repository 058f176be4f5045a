use Rattle.std.proofs.Common.{get_or, length, ℕ, ◌<◌, ◌^◌, ◌≡◌}
use Rattle.part_checks.proofs.lanes.fill_numbers.Given as goal

abbrev pub invariant-loop-i : goal.invariant-loop-i
invariant-loop-i l = (length l.acc ≡ length l.fn.acc) × ((k : ℕ) → k < l.i → get_or l.acc k 0 < 2 ^ 63)
