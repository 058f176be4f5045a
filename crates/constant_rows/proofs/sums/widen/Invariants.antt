use Rattle.std.proofs.Common.{replicate, ℕ, ◌++◌, ◌-◌, ◌≡◌}
use Rattle.std.specs.Vec.{vec_len}
use Rattle.constant_rows.proofs.sums.widen.Given as goal

abbrev pub invariant-loop-sums : goal.invariant-loop-sums
invariant-loop-sums l = (count : ℕ) × (l.sums.items ≡ l.fn.sums.items ++ replicate count 0)

abbrev pub decreases-loop-sums : goal.decreases-loop-sums
decreases-loop-sums l = l.width - vec_len l.sums
