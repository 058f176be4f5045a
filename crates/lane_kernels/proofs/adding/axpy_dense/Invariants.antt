use Rattle.std.proofs.Common.{◌*◌}
use Rattle.lane_kernels.proofs.Done.{IsDoneBelow}
use Rattle.lane_kernels.proofs.Products.{with_multiple}
use Rattle.lane_kernels.proofs.adding.axpy_dense.Given as goal

abbrev pub invariant-loop-turn : goal.invariant-loop-turn
invariant-loop-turn l = IsDoneBelow (8 * l.turn) (with_multiple l.c l.row) l.fn.acc l.acc

abbrev pub invariant-loop-i : goal.invariant-loop-i
invariant-loop-i l = IsDoneBelow l.i (with_multiple l.c l.row) l.fn.acc l.acc
