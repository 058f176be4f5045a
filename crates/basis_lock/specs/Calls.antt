-- What a worker may do under the lock, read in what its seat has seen, and what each call does
use Rattle.std.specs.Prelude.{Contains, List, [], false, length, take, true, ⊤, ℕ, ◌++◌, ◌<◌, ◌∷◌, ◌≡◌, ◌≤◌, ◌⊎◌}
use Rattle.term_lists.specs.Rings.{variables}
use Rattle.term_lists.specs.Vectors.{sums_of}
use Rattle.module_vectors.specs.declared.trail.KeptTrail.{KeptTrail}
use Rattle.module_vectors.specs.declared.trail.WorkStop.{WorkStop}
use Rattle.module_vectors.specs.declared.trail.WorkStop.TheVariants as works
use Rattle.basis_steps.specs.Invariant.{HoldsInvariant}
use Rattle.basis_steps.specs.Pairs.{Pair}
use Rattle.basis_steps.specs.States.{Run, vectors}
use Rattle.basis_steps.specs.Steps as steps
use Rattle.basis_steps.specs.Trails.{IsJobTrail}
use Rattle.basis_core.specs.declared.ending.Ending.{Ending}
use Rattle.basis_core.specs.declared.stop.StopReason.{StopReason}
use Rattle.basis_core.specs.declared.stop.StopReason.TheVariants as reasons
use Rattle.basis_core.specs.declared.taken.Taken.{Taken}
use Rattle.basis_core.specs.Answers.{AnswersTake, IsTakeOf, pairs_given}
use Rattle.basis_core.specs.Jobs.{pairs_of}
use Rattle.basis_core.specs.Members.{MemberShown, members_of, reduct_rows_of, setting_of}
use Rattle.basis_core.specs.Outcomes.{OutcomeShown, indexed_products_of}
use Rattle.basis_core.specs.Shown.{Shown}
use Rattle.basis_core.specs.Stops.{IsPairTrail, reason_of, trail_of}
use Rattle.basis_core.specs.Views.{IsSameRun, ending_of, run_of, state_of, variables_of}
use Rattle.ruled_lock.specs.declared.law.View.{View}
use Rattle.ruled_lock.specs.Plays.{Holds, AddsEvent}
use Rattle.basis_lock.specs.Acts.{Act, acts_of, has_ended_by_acts, has_stop, held_after, took_after}
use Rattle.basis_core.specs.Logs.{Base, End, Noted, Put, Stop, Take, base, by, log, members_after}

-- what the seat's worker did
abbrev pub own : View Noted Base → List Act
own v = acts_of v.mine

-- its worker may ask for at most `most` pairs: it has not ended, and has none out
pub record MayTakeJob (b : Base) (v : View Noted Base) (most : ℕ) : Type 0 where
  pub known : v.worker < b.workers
  pub works : has_ended_by_acts (own v) ≡ false
  pub free : held_after [] (own v) ≡ []
  pub some : 0 < most

-- its worker may hand in the outcome: the job is out with it, of the run's generators and of the first of the members that were seen
pub record MayHandIn (b : Base) (v : View Noted Base) (o : OutcomeShown) : Type 0 where
  pub known : v.worker < b.workers
  pub works : has_ended_by_acts (own v) ≡ false
  pub worker : o.job.worker ≡ v.worker
  pub shared : o.job.shared ≡ b.shared
  pub out : held_after [] (own v) ≡ pairs_of o.job.pairs
  pub had : length o.job.members ≤ length (members_after b v.seen)
  pub members : o.job.members ≡ take (length o.job.members) (members_after b v.seen)

-- its worker may end: it has not; and a Stop was seen, or it has none out and took since its last End
pub record MayFinish (b : Base) (v : View Noted Base) : Type 0 where
  pub known : v.worker < b.workers
  pub works : has_ended_by_acts (own v) ≡ false
  pub done : (has_stop (acts_of v.seen) ≡ true) ⊎ ((held_after [] (own v) ≡ []) × (took_after false (own v) ≡ true))

-- one of these Takes gave out the job
pub record HasGivenSeen (seen : List Noted) (job : List Pair) : Type 0 where
  pub worker : ℕ
  pub skipped : List Pair
  pub there : Contains seen (Take worker skipped job)

-- what never changes in the run
abbrev pub run_on : (n : ℕ) → Base → Run n
run_on n b = record {
  setting = setting_of n b.shared;
  generators = sums_of n b.shared.generators;
  budget = b.budget;
  workers = b.workers;
  degree_limit = 65535;
  update = b.update;
}

-- a trail of the members that were seen, and of a job that was seen to be given
pub record IsTrailSeen (b : Base) (seen : List Noted) (t : KeptTrail) : Type 0 where
  pub pair : IsPairTrail b.shared t
  pub job : List Pair
  pub given : HasGivenSeen seen job
  pub way :
      let n = variables b.shared.ring in
      IsJobTrail (run_on n b) (vectors (members_of n (members_after b seen))) job (trail_of n t)

-- the reason is not the budget; a stop by the degree has such a trail
abbrev pub IsReasonSeen : Base → List Noted → StopReason → Type 0
IsReasonSeen b seen reasons.Pairs = ⊥
IsReasonSeen b seen reasons.Memory = ⊤
IsReasonSeen b seen (reasons.Degree t) = IsTrailSeen b seen t

-- why a piece of work is not done: a stop by the degree has such a trail
abbrev pub IsWorkStopSeen : Base → List Noted → WorkStop → Type 0
IsWorkStopSeen b seen works.Memory = ⊤
IsWorkStopSeen b seen (works.Degree t) = IsTrailSeen b seen t

-- its worker may stop the run: it has not yet
pub record MayReport (b : Base) (v : View Noted Base) (reason : StopReason) : Type 0 where
  pub known : v.worker < b.workers
  pub first : has_stop (own v) ≡ false
  pub why : IsReasonSeen b v.seen reason

-- One hold and one event: between the run's states before and after it, at one point of the one history. This begins with
-- all that the seat had seen and ends with the event; of the worker's events it has just those of the seat
pub record IsHold (b : Base) (v : View Noted Base) (e : Noted) (w : View Noted Base) (s t : Shown) : Type 0 where
  pub makes : AddsEvent by v e w
  pub before : base s ≡ b
  pub after : base t ≡ b
  pub run : IsSameRun s t
  pub history : log t ≡ log s ++ (e ∷ [])
  pub seen : w.seen ≡ log t
  pub replays : steps.Replays (run_of (variables_of t) t) (state_of (variables_of t) t)

-- The state of the run at one point of the one history, where the lock was free: it replays that history, which begins with
-- all that the seat had seen, and holds the invariant of a run. The hold that finds it is no event
pub record IsFreeState (b : Base) (v w : View Noted Base) (s : Shown) : Type 0 where
  pub holds : Holds by v w
  pub of_run : base s ≡ b
  pub history : w.seen ≡ log s
  pub replays : steps.Replays (run_of (variables_of s) s) (state_of (variables_of s) s)
  pub invariant : HoldsInvariant (run_of (variables_of s) s) (state_of (variables_of s) s)

-- a Take, with its answer
pub record TakesJob (b : Base) (v : View Noted Base) (most : ℕ) (answer : Taken) (w : View Noted Base) : Type 0 where
  pub before : Shown
  pub after : Shown
  pub skipped : List Pair
  pub hold : IsHold b v (Take v.worker skipped (pairs_given answer)) w before after
  pub taken : IsTakeOf (variables_of before) before v.worker most skipped answer after
  pub answers : AnswersTake v.worker after answer

-- a Put of the outcome: its rows make these members
pub record HandsIn (b : Base) (v : View Noted Base) (o : OutcomeShown) (w : View Noted Base) : Type 0 where
  pub before : Shown
  pub after : Shown
  pub made : List MemberShown
  pub members : after.members ≡ before.members ++ made
  pub hold : IsHold b v (Put v.worker made) w before after
  pub puts :
      let n = variables_of before in
      steps.Puts (run_of n before) (state_of n before) v.worker (length o.job.members) (reduct_rows_of n o.rows) (indexed_products_of n o.products)
      (members_of n made) (state_of n after)

-- an End, with its answer
pub record Finishes (b : Base) (v : View Noted Base) (ending : Ending) (w : View Noted Base) : Type 0 where
  pub before : Shown
  pub after : Shown
  pub hold : IsHold b v (End v.worker (ending_of ending)) w before after
  pub ends :
      let n = variables_of before in
      steps.Ends (run_of n before) (state_of n before) v.worker (ending_of ending) (state_of n after)

-- a Stop
pub record ReportsStop (b : Base) (v : View Noted Base) (reason : StopReason) (w : View Noted Base) : Type 0 where
  pub before : Shown
  pub after : Shown
  pub hold : IsHold b v (Stop v.worker) w before after
  pub stops :
      let n = variables_of before in
      steps.Stops (run_of n before) (state_of n before) v.worker (reason_of n reason) (state_of n after)
