use Rattle.std.proofs.Common.{get_or, take, ◌≤◌}
use Rattle.formal_sums.specs.FormalSums.{Each}
use Rattle.constant_passes.proofs.clearing.first_step.Given as goal

abbrev pub invariant-loop-entry : goal.invariant-loop-entry
invariant-loop-entry l = Each (λ e. l.least ≤ get_or l.numbers e.0 18446744073709551615) (take l.entry-index l.entries)
