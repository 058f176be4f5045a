-- The fields of a state, and what is kept of them
use Rattle.std.specs.Prelude.{Bool, List, None, Option, Some, [], cond, false, get_or, length, nat_eq, not, true, zero, suc, ⊤, ℕ, ◌&&◌, ◌+◌, ◌<◌}
use Rattle.std.specs.Prelude.{◌≡◌, ◌≤◌, ◌∷◌}
use Rattle.std.specs.Vec.{vec_capacity}
use Rattle.formal_sums.specs.FormalSums.{Each}
use Rattle.basis_steps.specs.Histories.{took_since}
use Rattle.basis_steps.specs.Steps.{Replays}
use Rattle.basis_steps.specs.States as plain
use Rattle.basis_core.specs.declared.state.BasisState.TheInside.{Inside}
use Rattle.basis_core.specs.declared.event.Event.{Event}
use Rattle.basis_core.specs.declared.event.Event.TheVariants.{End, Put, Stop, Take}
use Rattle.basis_core.specs.declared.stop.StopReason.{StopReason}
use Rattle.basis_core.specs.Jobs.{pairs_of}
use Rattle.basis_core.specs.Shown.{Shown}
use Rattle.basis_core.specs.Stops.{IsReasonOver}
use Rattle.basis_core.specs.Views.{run_of, state_of, variables_of}
use Rattle.basis_core.specs.Leads.{leads_shown_of}

abbrev pub shown : Inside → Shown
shown s = record {
  shared = s.members.shared;
  budget = s.budget;
  workers = s.workers;
  update = s.pairs.update;
  members = s.members.list;
  queue = pairs_of s.pairs.queue;
  dropped = s.pairs.dropped;
  out = s.pairs.out;
  taken = s.taken;
  ended = s.ended.items;
  stop = s.stop;
  history = s.history.items;
}

-- has worker w a Stop in these events? (a test)
abbrev pub has_stopped : {n : ℕ} → ℕ → List (plain.Event n) → Bool
has_stopped w [] = false
has_stopped w (plain.Take v skipped job ∷ es) = has_stopped w es
has_stopped w (plain.Put v made ∷ es) = has_stopped w es
has_stopped w (plain.End v ending ∷ es) = has_stopped w es
has_stopped w (plain.Stop v reason ∷ es) = cond (nat_eq v w) true (has_stopped w es)

-- the Ends and the Stop that worker w can still come with before its next Take
abbrev pub events_left : {n : ℕ} → plain.State n → ℕ → ℕ
events_left s w =
    cond (get_or s.ended w true) 0 1
    + (cond (not (get_or s.ended w true) && took_since w s.history false) 1 0
    + cond (has_stopped w s.history) 0 1)

-- those of the first k workers
abbrev pub all_left : {n : ℕ} → plain.State n → ℕ → ℕ
all_left s zero = 0
all_left s (suc k) = events_left s k + all_left s k

-- a Stop has a reason of its own, or stands where one is kept
abbrev pub HasReason : Option StopReason → Option StopReason → Type 0
HasReason kept (Some reason) = ⊤
HasReason (Some reason) None = ⊤
HasReason None None = ⊥

-- all that the event stands for is there: its members are among the first `count`, and its reason is known
abbrev pub IsEventRead : (count : ℕ) → (kept : Option StopReason) → Event → Type 0
IsEventRead count kept (Take w skipped job) = ⊤
IsEventRead count kept (Put w first made) = first + made ≤ count
IsEventRead count kept (End w ending) = ⊤
IsEventRead count kept (Stop w reason) = HasReason kept reason

-- the kept reason, if there is one, is over these generators
abbrev pub IsStopOver : (o : Shown) → Option StopReason → Type 0
IsStopOver o None = ⊤
IsStopOver o (Some reason) = IsReasonOver o.shared reason

-- the state replays its history, of which all that its events stand for is there; its pairs know its members by their leads;
-- and there is room for the Ends and Stops that may come
pub record IsCoherentState (s : Inside) : Type 0 where
  pub some : 0 < s.workers
  pub replays : Replays (run_of (variables_of (shown s)) (shown s)) (state_of (variables_of (shown s)) (shown s))
  pub leads : s.pairs.leads ≡ leads_shown_of s.members.shared s.members.list
  pub stop : IsStopOver (shown s) s.stop
  pub read : Each (IsEventRead (length s.members.list) s.stop) s.history.items
  pub room : length s.history.items + all_left (state_of (variables_of (shown s)) (shown s)) s.workers ≤ vec_capacity s.history
