use Rattle.std.proofs.Common.{length, ◌≤◌}
use Rattle.row_matrix.proofs.key_table.find_hash.Given as goal

abbrev pub decreases-loop-cursor : goal.decreases-loop-cursor
decreases-loop-cursor l = l.cursor

abbrev pub invariant-loop-cursor : goal.invariant-loop-cursor
invariant-loop-cursor l = record { within : l.cursor ≤ length l.hashes }
