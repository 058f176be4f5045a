use Rattle.std.proofs.Common.{◌≡◌}
use Rattle.basis_steps.specs.Steps.{none_ended}
use Rattle.basis_core.proofs.beginning.nobody_ended.Given as goal

abbrev pub invariant-loop : goal.invariant-loop
invariant-loop l = l.ended.items ≡ none_ended l.counter
