use Rattle.std.proofs.Common.{[], take, ◌≡◌}
use Rattle.basis_steps.specs.States.{job_of}
use Rattle.basis_core.specs.Views.{outs_of}
use Rattle.basis_core.proofs.asking.is_free.Given as goal

abbrev pub invariant-loop-pair : goal.invariant-loop-pair
invariant-loop-pair l = job_of l.worker (outs_of (take l.pair-index l.out)) ≡ []
