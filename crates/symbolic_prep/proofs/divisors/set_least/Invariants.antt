use Rattle.std.proofs.Common.{length, ◌-◌}
use Rattle.symbolic_prep.proofs.Degrees.{AreBoundsFrom}
use Rattle.symbolic_prep.proofs.divisors.set_least.Given as goal

abbrev pub invariant-loop-k : goal.invariant-loop-k
invariant-loop-k l = AreBoundsFrom l.fn.degrees l.degrees (length l.fn.degrees - l.k) l.least
