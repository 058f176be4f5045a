use Rattle.std.proofs.Common.{length, subst}
use Rattle.formal_sums.specs.FormalSums.{Each}
use Rattle.basis_steps.specs.Invariant.{HoldsInvariant}
use Rattle.basis_steps.specs.States.{IsLawfulRun}
use Rattle.basis_steps.specs.Steps.{Replays}
use Rattle.basis_core.specs.Inside.{IsEventRead, shown}
use Rattle.basis_core.specs.Shown.{Shown}
use Rattle.basis_core.specs.Views.{run_of, state_of, variables_of}
use Rattle.basis_core.proofs.Replaying.{lawful_run, replayed_holds}
use Rattle.basis_core.proofs.state.BasisState.kept.Goals as goal

pub returns-clause-lawful : goal.returns-clause-lawful
returns-clause-lawful c =
    subst (λ (s : Shown). IsLawfulRun (run_of (variables_of s) s)) c.self.view_is
    (lawful_run (variables_of (shown c.self.inside)) (shown c.self.inside) c.domain.ensures c.self.invariant.some)

pub returns-clause-replays : goal.returns-clause-replays
returns-clause-replays c = subst (λ (s : Shown). Replays (run_of (variables_of s) s) (state_of (variables_of s) s)) c.self.view_is c.self.invariant.replays

pub returns-clause-holds : goal.returns-clause-holds
returns-clause-holds c =
    subst (λ (s : Shown). HoldsInvariant (run_of (variables_of s) s) (state_of (variables_of s) s)) c.self.view_is
    (replayed_holds (variables_of (shown c.self.inside)) (shown c.self.inside) c.domain.ensures c.self.invariant.some c.self.invariant.replays)

pub returns-clause-read : goal.returns-clause-read
returns-clause-read c = subst (λ (s : Shown). Each (IsEventRead (length s.members) s.stop) s.history) c.self.view_is c.self.invariant.read
