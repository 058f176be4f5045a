use Rattle.std.proofs.Common.{get_or, length, ℕ, ◌<◌, ◌≡◌}
use Rattle.part_checks.proofs.lanes.fill_row.Given as goal

abbrev pub invariant-loop-i : goal.invariant-loop-i
invariant-loop-i l = (length l.row ≡ length l.fn.row) × ((k : ℕ) → k < l.i → get_or l.row k 0 < l.p.value)
