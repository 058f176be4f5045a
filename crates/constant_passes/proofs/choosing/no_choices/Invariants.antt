use Rattle.std.proofs.Common.{length, ◌-◌, ◌≤◌}
use Rattle.constant_passes.proofs.choosing.no_choices.Given as goal

abbrev pub invariant-loop-choices : goal.invariant-loop-choices
invariant-loop-choices l = length l.choices.items ≤ l.count

abbrev pub decreases-loop-choices : goal.decreases-loop-choices
decreases-loop-choices l = l.count - length l.choices.items
