-- Workers that take jobs, solve them, and hand in what they came to
use Rattle.std.specs.Prelude.{All, Bool, List, MatchBool, [], false, length, map, take, true, ℕ, ◌<◌, ◌≡◌, ◌≤◌, ◌⊎◌}
use Rattle.std.specs.List.{Contains}
use Rattle.module_vectors.specs.declared.trail.WorkStop.{WorkStop}
use Rattle.basis_core.specs.Jobs.{JobShown, pairs_of}
use Rattle.ruled_lock.specs.declared.law.Old.{Old}
use Rattle.ruled_lock.specs.declared.law.View.{View}
use Rattle.ruled_lock.specs.Events.{calls_by}
use Rattle.basis_lock.specs.Acts.{Act, acts_of, has_ended_by_acts, has_stop, has_take, held_after, took_after}
use Rattle.basis_lock.specs.Calls.{HasGivenSeen, IsWorkStopSeen, own}
use Rattle.basis_core.specs.Logs.{Base, Noted, by, members_after}

-- a worker between two rounds: it has not ended, has none out, and has not stopped the run
pub record IsWorking (b : Base) (v : View Noted Base) : Type 0 where
  pub known : v.worker < b.workers
  pub works : has_ended_by_acts (own v) ≡ false
  pub free : held_after [] (own v) ≡ []
  pub unstopped : has_stop (own v) ≡ false

-- it has this job
pub record HasJob (b : Base) (v : View Noted Base) (job : JobShown) : Type 0 where
  pub known : v.worker < b.workers
  pub works : has_ended_by_acts (own v) ≡ false
  pub unstopped : has_stop (own v) ≡ false
  pub took : has_take (own v) ≡ true
  pub worker : job.worker ≡ v.worker
  pub shared : job.shared ≡ b.shared
  pub out : held_after [] (own v) ≡ pairs_of job.pairs
  pub had : length job.members ≤ length (members_after b v.seen)
  pub members : job.members ≡ take (length job.members) (members_after b v.seen)
  pub given : HasGivenSeen v.seen (pairs_of job.pairs)

-- it was told that there is no job
pub record HasNone (b : Base) (v : View Noted Base) : Type 0 where
  pub working : IsWorking b v
  pub took : took_after false (own v) ≡ true
  pub has_taken : has_take (own v) ≡ true

-- its work is not done, for this reason
pub record MayGiveUp (b : Base) (v : View Noted Base) (stop : WorkStop) : Type 0 where
  pub known : v.worker < b.workers
  pub works : has_ended_by_acts (own v) ≡ false
  pub unstopped : has_stop (own v) ≡ false
  pub why : IsWorkStopSeen b v.seen stop

-- the same seat
abbrev pub IsSameWorker : (v w : View Noted Base) → Type 0
IsSameWorker v w = (w.worker ≡ v.worker) × (w.olds ≡ v.olds)

-- by these acts a worker has ended, after a Take or a Stop
pub record AreDone (acts : List Act) : Type 0 where
  pub ended : has_ended_by_acts acts ≡ true
  pub took : (has_take acts ≡ true) ⊎ (has_stop acts ≡ true)

-- a worker has ended, or goes on
abbrev pub RoundEnds : Base → (v w : View Noted Base) → Bool → Type 0
RoundEnds b v w ended = IsSameWorker v w × MatchBool ended (AreDone (own w)) (IsWorking b w)

-- the number is the seat's, or was that of a seat that was joined into it
abbrev pub IsBack : View Noted Base → ℕ → Type 0
IsBack v x = (x ≡ v.worker) ⊎ Contains (map (λ o. o.worker) v.olds) x

abbrev pub CanGive : ℕ → View Noted Base → Type 0
CanGive n v = (x : ℕ) → 0 < x → x < n → Contains v.give x

-- a new worker's seat
pub record IsFresh (x : ℕ) (v : View Noted Base) : Type 0 where
  pub number : v.worker ≡ x
  pub mine : v.mine ≡ []
  pub olds : v.olds ≡ []

-- the first worker's, which can give the numbers below n
pub record IsFirstView (n : ℕ) (v : View Noted Base) : Type 0 where
  pub fresh : IsFresh 0 v
  pub gives : CanGive n v

-- a worker's seat after its work
pub record HasDone (x : ℕ) (v : View Noted Base) : Type 0 where
  pub number : v.worker ≡ x
  pub done : AreDone (own v)
  pub olds : v.olds ≡ []

abbrev pub OldIsDone : Old Noted → Type 0
OldIsDone o = AreDone (acts_of o.mine)

-- the workers below n are back, and each is done
pub record AllWorkersDone (n : ℕ) (v : View Noted Base) : Type 0 where
  pub back : (x : ℕ) → x < n → IsBack v x
  pub number : v.worker ≡ 0
  pub done : AreDone (own v)
  pub olds : All OldIsDone v.olds

-- in this history each worker has ended, after a Take or a Stop
abbrev pub EachDone : ℕ → List Noted → Type 0
EachDone n log = (x : ℕ) → x < n → AreDone (acts_of (calls_by by x log))

-- in this history each worker has a Take
abbrev pub EachTook : ℕ → List Noted → Type 0
EachTook n log = (x : ℕ) → x < n → has_take (acts_of (calls_by by x log)) ≡ true
