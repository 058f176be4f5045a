use Rattle.std.proofs.Common.{take, ◌∷◌, ◌≡◌}
use Rattle.dense_reduction.specs.Together.{lane_taken}
use Rattle.dense_reduction.proofs.together.rows_taken.Given as goal

abbrev pub invariant-loop-one : goal.invariant-loop-one
invariant-loop-one l = l.rows.items ≡ l.fn.first ∷ lane_taken l.j (take l.one-index l.taken)
