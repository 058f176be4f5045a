-- A run by its workers: at its beginning, when they have ended, and at a stop
use Rattle.std.specs.Prelude.{None, Option, Some, [], ⊤, ℕ, ◌<◌, ◌≡◌}
use Rattle.queue_updates.specs.declared.Update.{Update}
use Rattle.basis_steps.specs.Invariant.{HaveAllEnded}
use Rattle.basis_core.specs.Shown.{Shown}
use Rattle.basis_core.specs.Views.{run_of, state_of, variables_of}
use Rattle.basis_core.specs.Logs.{log}
use Rattle.run_endings.specs.Endings.{IsBudgetStop, IsClosed, IsDegreeStop}
use Rattle.run_endings.specs.Stops.{IsRunBy}
use Rattle.f4_engine.specs.declared.runs.Ended.{Ended}
use Rattle.f4_engine.specs.declared.runs.Ended.TheVariants as ends
use Rattle.f4_engine.specs.Workers.{EachDone, EachTook}

-- no event has happened, and there is a worker
pub record IsFreshState (s : Shown) : Type 0 where
  pub empty : log s ≡ []
  pub some : 0 < s.workers

-- each worker has ended, after a Take or a Stop of its own
abbrev pub IsWorkedByAll : Shown → Type 0
IsWorkedByAll s = EachDone s.workers (log s)

-- the run is closed, and each worker has ended after a Take of its own
pub record IsFinished (s : Shown) : Type 0 where
  pub closed : IsClosed s
  pub took : EachTook s.workers (log s)

-- the state that the workers leave
pub record IsLeft (old new : Shown) : Type 0 where
  pub shared : new.shared ≡ old.shared
  pub by_these : IsRunBy old.budget old.workers old.update new
  pub by_all : IsWorkedByAll new
  pub ended : HaveAllEnded (run_of (variables_of new) new) (state_of (variables_of new) new)
  pub took : new.stop ≡ None → EachTook new.workers (log new)

-- how a run ended, by the stop that its state keeps
abbrev pub EndsAs : Shown → Ended → Type 0
EndsAs s ends.Finished = s.stop ≡ None
EndsAs s ends.Pairs = IsBudgetStop s
EndsAs s ends.Memory = ⊤
EndsAs s (ends.Degree t) = IsDegreeStop s t

-- what is kept of the last run that answered
abbrev pub IsLastRun : (pairs workers : ℕ) → Update → Option Shown → Type 0
IsLastRun pairs workers update None = ⊤
IsLastRun pairs workers update (Some s) = IsRunBy pairs workers update s × IsWorkedByAll s × IsFinished s
