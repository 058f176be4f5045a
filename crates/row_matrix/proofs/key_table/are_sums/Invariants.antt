use Rattle.std.proofs.Common.{get_or, ◌+◌, ◌<◌, ◌≡◌, ℕ}
use Rattle.row_matrix.proofs.key_table.are_sums.Given as goal

abbrev pub invariant-loop-k : goal.invariant-loop-k
invariant-loop-k l = (j : ℕ) → j < l.k → get_or l.places j 0 ≡ get_or l.left j 0 + get_or l.right j 0
