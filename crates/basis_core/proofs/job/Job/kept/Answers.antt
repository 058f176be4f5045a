use Rattle.std.proofs.Common.{subst}
use Rattle.basis_core.specs.Jobs.{IsJobOver}
use Rattle.basis_core.proofs.job.Job.kept.Goals as goal

pub returns : goal.returns
returns c = subst IsJobOver c.self.view_is c.self.invariant
