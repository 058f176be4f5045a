use Rattle.std.proofs.Common.{subst}
use Rattle.basis_core.specs.Outcomes.{IsOutcomeOver}
use Rattle.basis_core.proofs.outcome.Outcome.kept.Goals as goal

pub returns : goal.returns
returns c = subst IsOutcomeOver c.self.view_is c.self.invariant
