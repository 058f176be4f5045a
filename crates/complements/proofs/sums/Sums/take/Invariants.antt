use Rattle.std.proofs.Common.{◌<◌}
use Rattle.formal_sums.specs.FormalSums.{Each}
use Rattle.complements.proofs.sums.Sums.take.Given as goal

abbrev pub invariant-loop-k : goal.invariant-loop-k
invariant-loop-k l = Each (λ e. e.1 < l.modulus.value) l.taken.items
