-- The rounds of a run with one worker: it takes a pair, and hands in what its S-vector leaves
use Rattle.std.specs.Prelude.{[], None, Some, false, get_or, length, true, ⊤, ◌<◌, ◌≡◌, ◌≤◌}
use Rattle.module_vectors.specs.declared.trail.KeptTrail.{KeptTrail}
use Rattle.module_vectors.specs.declared.trail.WorkStop.{WorkStop}
use Rattle.module_vectors.specs.declared.trail.WorkStop.TheVariants as works
use Rattle.queue_updates.specs.declared.Update.TheVariants.{Plain}
use Rattle.basis_steps.specs.Criteria.{NoCriterionApplies, waiting}
use Rattle.basis_steps.specs.Histories.{HasStopped}
use Rattle.basis_steps.specs.States.{job_of, vectors}
use Rattle.basis_steps.specs.Trails.{HasGiven}
use Rattle.basis_core.specs.declared.stop.StopReason.{StopReason}
use Rattle.basis_core.specs.declared.stop.StopReason.TheVariants as reasons
use Rattle.basis_core.specs.Answers.{IsRunTrail}
use Rattle.basis_core.specs.Jobs.{JobShown, pairs_of}
use Rattle.basis_core.specs.Members.{members_of, setting_of}
use Rattle.basis_core.specs.Shown.{Shown}
use Rattle.basis_core.specs.Views.{state_of, variables_of}
use Rattle.run_endings.specs.Endings.{IsBudgetStop, IsClosed, IsDegreeStop}
use Rattle.plain_buchberger.specs.declared.rounds.Round.{Round}
use Rattle.plain_buchberger.specs.declared.rounds.Round.TheVariants as rounds

-- the only worker has not ended, and no stop was kept
pub record IsRunning (s : Shown) : Type 0 where
  pub alone : s.workers ≡ 1
  pub stop : s.stop ≡ None
  pub works : get_or s.ended 0 true ≡ false
  pub unstopped : HasStopped 0 (state_of (variables_of s) s).history → ⊥

-- and it has no pair out
pub record IsFree (s : Shown) : Type 0 where
  pub runs : IsRunning s
  pub free : job_of 0 s.out ≡ []

-- and it has this job out, of all members
pub record IsOut (s : Shown) (job : JobShown) : Type 0 where
  pub runs : IsRunning s
  pub worker : job.worker ≡ 0
  pub shared : job.shared ≡ s.shared
  pub members : job.members ≡ s.members
  pub out : job_of 0 s.out ≡ pairs_of job.pairs
  pub given : HasGiven (state_of (variables_of s) s).history (pairs_of job.pairs)

-- a pair is left, and, where new members drop none, no criterion applies to one that is
pub record LeavesPairs (s : Shown) : Type 0 where
  pub queued : 0 < length s.queue
  pub none_applies :
      s.update ≡ Plain → let n = variables_of s in
      NoCriterionApplies (setting_of n s.shared) (vectors (members_of n s.members)) (waiting s.queue s.out) s.queue

-- why a round is not done: a stop by the budget with a pair left, or by the degree; the state keeps it
abbrev pub RoundStops : Shown → StopReason → Type 0
RoundStops s reasons.Pairs = IsBudgetStop s × LeavesPairs s
RoundStops s reasons.Memory = ⊤
RoundStops s (reasons.Degree t) = IsDegreeStop s t

-- Degree comes with a trail of the state's members and of a job of its history
abbrev pub StateStops : Shown → WorkStop → Type 0
StateStops s works.Memory = ⊤
StateStops s (works.Degree t) = IsRunTrail (variables_of s) s t

-- the state keeps a stop by the degree
abbrev pub KeepsDegree : Shown → Type 0
KeepsDegree s = (t : KeptTrail) × (s.stop ≡ Some (reasons.Degree t))

-- Degree comes where the state keeps that stop
abbrev pub WorkFails : Shown → WorkStop → Type 0
WorkFails s works.Memory = ⊤
WorkFails s (works.Degree t) = IsDegreeStop s t

-- after a pair more pairs are taken, within the budget; or the run is closed
abbrev pub PairRoundEnds : (old new : Shown) → Round → Type 0
PairRoundEnds old new rounds.Pair = IsFree new × (old.taken < new.taken) × (new.taken ≤ new.budget)
PairRoundEnds old new rounds.Closed = IsClosed new
