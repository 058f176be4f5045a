use Rattle.std.proofs.Common.{◌++◌, ◌≡◌}
use Rattle.std.specs.VecDeque.{deque_len}
use Rattle.dense_reduction.specs.Rests.{rows_left}
use Rattle.row_reduce.proofs.tails.rows_of.Given as goal

abbrev pub invariant-loop-one : goal.invariant-loop-one
invariant-loop-one l = l.rows.items ++ rows_left l.rest.items ≡ rows_left l.fn.left.items

abbrev pub decreases-loop-one : goal.decreases-loop-one
decreases-loop-one l = deque_len l.rest
