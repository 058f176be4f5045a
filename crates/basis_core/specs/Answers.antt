-- What the calls on the state of a run answer
use Rattle.std.specs.Prelude.{List, None, Some, [], get_or, length, take, ⊤, ℕ, ◌++◌, ◌<◌, ◌∷◌, ◌≡◌, ◌≤◌, ◌⊎◌}
use Rattle.term_lists.specs.Vectors.{sums_of}
use Rattle.module_vectors.specs.declared.trail.KeptTrail.{KeptTrail}
use Rattle.module_vectors.specs.declared.trail.TrailStart.TheVariants as starts
use Rattle.module_vectors.specs.declared.trail.WorkStop.{WorkStop}
use Rattle.module_vectors.specs.declared.trail.WorkStop.TheVariants.{Memory, Degree}
use Rattle.formal_sums.specs.FormalSums.{FormalSum}
use Rattle.queue_updates.specs.declared.Update.{Update}
use Rattle.basis_steps.specs.Divisions.{AreReached, MakesMembers}
use Rattle.basis_steps.specs.Pairs.{Pair, count}
use Rattle.basis_steps.specs.States.{Member, job_of, vectors}
use Rattle.basis_steps.specs.Steps.{FindsStop, Puts, Takes, generator_rows}
use Rattle.basis_steps.specs.Trails.{HasGiven, IsHistoryTrail, row_at}
use Rattle.basis_core.specs.declared.stop.StopReason.{StopReason}
use Rattle.basis_core.specs.declared.stop.StopReason.TheVariants as reasons
use Rattle.basis_core.specs.declared.taken.Taken.{Taken}
use Rattle.basis_core.specs.declared.taken.Taken.TheVariants.{Job as TookJob, Empty, Stopped}
use Rattle.basis_core.specs.Jobs.{pairs_of}
use Rattle.basis_core.specs.Logs.{Adds, Put, Take}
use Rattle.basis_core.specs.Members.{Shared, MemberShown, members_of, reduct_rows_of, setting_of}
use Rattle.basis_core.specs.Outcomes.{OutcomeShown, indexed_products_of}
use Rattle.basis_core.specs.Shown.{Shown}
use Rattle.basis_core.specs.Stops.{IsPairTrail, IsTrailOver, trail_members, trail_of}
use Rattle.basis_core.specs.Views.{run_of, state_of}

-- ring, rank, generators, budget, workers and what is queued as members come are these
pub record IsRunOf (shared : Shared) (budget workers : ℕ) (update : Update) (s : Shown) : Type 0 where
  pub over : s.shared ≡ shared
  pub most : s.budget ≡ budget
  pub number : s.workers ≡ workers
  pub queues : s.update ≡ update

-- a trail by the members that the generators before number i make, of which generator i is divided
pub record IsBeginningTrail (n : ℕ) (shared : Shared) (t : KeptTrail) : Type 0 where
  pub over : IsTrailOver shared t
  pub start : t.start ≡ starts.Term
  pub number : ℕ
  pub known : number < length shared.generators
  pub vector : t.vector ≡ get_or shared.generators number []
  pub made : List (Member n)
  pub makes : MakesMembers (setting_of n shared) [] (generator_rows 0 (take number (sums_of n shared.generators))) made
  pub members : trail_members n t ≡ vectors made

-- Degree comes with such a trail alone
abbrev pub BeginningStops : (n : ℕ) → Shared → WorkStop → Type 0
BeginningStops n shared Memory = ⊤
BeginningStops n shared (Degree t) = IsBeginningTrail n shared t

-- a trail of the state's members and of a job of its history, as a stop by the degree needs it
pub record IsRunTrail (n : ℕ) (s : Shown) (t : KeptTrail) : Type 0 where
  pub pair : IsPairTrail s.shared t
  pub way : IsHistoryTrail (run_of n s) (vectors (state_of n s).members) (state_of n s).history (trail_of n t)

-- the reason is not the budget, which a Take alone keeps; a stop by the degree has such a trail
abbrev pub IsReason : (n : ℕ) → Shown → StopReason → Type 0
IsReason n s reasons.Pairs = ⊥
IsReason n s reasons.Memory = ⊤
IsReason n s (reasons.Degree t) = IsRunTrail n s t

-- the pairs that the answer gives
abbrev pub pairs_given : Taken → List Pair
pairs_given (TookJob job) = pairs_of job.pairs
pairs_given Empty = []
pairs_given Stopped = []

-- a Take that skipped these pairs: it found a stop, or gave out some of the pairs left
abbrev pub IsTakeOf : (n : ℕ) → Shown → ℕ → ℕ → List Pair → Taken → Shown → Type 0
IsTakeOf n s w most skipped answer t =
    FindsStop (state_of n s) w skipped (pairs_given answer) (state_of n t)
    ⊎ ((left : List Pair) × Takes (run_of n s) (state_of n s) w most skipped (pairs_given answer) left (state_of n t))

-- the Take that the answer came by, which is added to the log
abbrev pub IsTaken : (n : ℕ) → Shown → ℕ → ℕ → Taken → Shown → Type 0
IsTaken n s w most answer t =
    (skipped : List Pair) × Adds (Take w skipped (pairs_given answer)) s t × IsTakeOf n s w most skipped answer t

-- a job is of this worker and has all members; Empty comes exactly where no stop is kept and no pair is queued, Stopped exactly where a stop is kept
abbrev pub AnswersTake : ℕ → Shown → Taken → Type 0
AnswersTake w t (TookJob job) =
    (t.stop ≡ None) × (job.worker ≡ w) × (job.shared ≡ t.shared) × (job.members ≡ t.members)
AnswersTake w t Empty = (t.stop ≡ None) × (t.queue ≡ [])
AnswersTake w t Stopped = (reason : StopReason) × (t.stop ≡ Some reason)

-- the outcome is of the job that is out with its worker, who has not ended, and of the first of the state's members
pub record IsJobOut (s : Shown) (o : OutcomeShown) : Type 0 where
  pub shared : o.job.shared ≡ s.shared
  pub out : job_of o.job.worker s.out ≡ pairs_of o.job.pairs
  pub had : length o.job.members ≤ length s.members
  pub members : o.job.members ≡ take (length o.job.members) s.members

-- the Put of the outcome: its rows make these members, which stand behind the old ones and in the log
pub record PutsOutcome (n : ℕ) (s : Shown) (o : OutcomeShown) (made : List MemberShown) (t : Shown) : Type 0 where
  pub puts :
      Puts (run_of n s) (state_of n s) o.job.worker (length o.job.members) (reduct_rows_of n o.rows) (indexed_products_of n o.products)
      (members_of n made) (state_of n t)
  pub members : t.members ≡ s.members ++ made
  pub adds : Adds (Put o.job.worker made) s t

-- a trail by the state's members and those that the rows before one of them make, of a job of the history: of that row's division
pub record IsPutTrail (n : ℕ) (s : Shown) (o : OutcomeShown) (t : KeptTrail) : Type 0 where
  pub trail : IsRunTrail n s t
  pub start : 0 < count (trail_of n t).start (pairs_of o.job.pairs)
  pub number : ℕ
  pub known : number < length o.rows
  pub made : List (Member n)
  pub makes : MakesMembers (setting_of n s.shared) (vectors (members_of n s.members)) (take number (reduct_rows_of n o.rows)) made
  pub members : (trail_of n t).members ≡ vectors (members_of n s.members) ++ vectors made
  pub given : HasGiven (state_of n s).history (pairs_of o.job.pairs)
  -- the products of the row's division so far, the last of the trail behind them
  pub division : FormalSum n
  pub reached :
      AreReached s.shared.ring.modulus.value (trail_of n t).members (row_at (reduct_rows_of n o.rows) number).vector
      [] (division ++ (((trail_of n t).last, 1) ∷ []))

-- Degree comes with such a trail alone
abbrev pub PutStops : (n : ℕ) → Shown → OutcomeShown → WorkStop → Type 0
PutStops n s o Memory = ⊤
PutStops n s o (Degree t) = IsPutTrail n s o t
