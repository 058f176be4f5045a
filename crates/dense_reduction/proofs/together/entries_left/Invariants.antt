use Rattle.std.proofs.Common.{take, ◌≡◌}
use Rattle.dense_reduction.specs.Together.{lane_left}
use Rattle.dense_reduction.proofs.together.entries_left.Given as goal

abbrev pub invariant-loop-one : goal.invariant-loop-one
invariant-loop-one l = l.entries.items ≡ lane_left l.j (take l.one-index l.left)
