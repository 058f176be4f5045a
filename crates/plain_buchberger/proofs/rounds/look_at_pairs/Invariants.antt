use Rattle.std.proofs.Common.{◌-◌}
use Rattle.basis_core.specs.Views.{IsSameRun}
use Rattle.plain_buchberger.specs.Rounds.{IsFree}
use Rattle.plain_buchberger.proofs.rounds.look_at_pairs.Given as goal

abbrev pub invariant-loop-stop : goal.invariant-loop-stop
invariant-loop-stop l = record {
  free : IsFree l.state;
  same : IsSameRun l.initial.state l.state;
}

abbrev pub decreases-loop-stop : goal.decreases-loop-stop
decreases-loop-stop l = l.state.budget - l.state.taken
