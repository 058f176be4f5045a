-- A state, and the outcomes that wait to be handed in
use Rattle.std.specs.Prelude.{List, None, Option, Some, get_or, ℕ, ◌≡◌}
use Rattle.basis_core.specs.Outcomes.{OutcomeShown}
use Rattle.basis_core.specs.Pending.{MayPutOutcome}
use Rattle.basis_core.specs.Shown.{Shown}

-- what waits at a worker's place is its own outcome, and may be handed in
abbrev pub AreWaiting : Shown → List (Option OutcomeShown) → Type 0
AreWaiting s waiting = (w : ℕ) (o : OutcomeShown) → get_or waiting w None ≡ Some o → (o.job.worker ≡ w) × MayPutOutcome s o

-- a state and its workers' outcomes
pub record PlayShown : Type 0 where
  pub state : Shown
  pub waiting : List (Option OutcomeShown)
