use Rattle.std.proofs.Common.{◌*◌}
use Rattle.lane_kernels.proofs.Done.{IsDoneBelow}
use Rattle.lane_kernels.proofs.LaneMaps.{remainder_by}
use Rattle.lane_kernels.proofs.remainders.reduce_lanes.Given as goal

abbrev pub invariant-loop-turn : goal.invariant-loop-turn
invariant-loop-turn l = IsDoneBelow (8 * l.turn) (remainder_by l.p.value) l.fn.acc l.acc

abbrev pub invariant-loop-i : goal.invariant-loop-i
invariant-loop-i l = IsDoneBelow l.i (remainder_by l.p.value) l.fn.acc l.acc
