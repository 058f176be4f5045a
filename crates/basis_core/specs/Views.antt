-- The plain data that the state of a run stands for
use Rattle.std.specs.Prelude.{List, None, Option, Some, drop, map, take, ℕ, ◌≡◌}
use Rattle.term_lists.specs.Rings.{variables}
use Rattle.term_lists.specs.Vectors.{sums_of}
use Rattle.basis_steps.specs.States as plain
use Rattle.basis_steps.specs.States.{Run, State}
use Rattle.basis_core.specs.declared.ending.Ending.{Ending}
use Rattle.basis_core.specs.declared.ending.Ending.TheVariants.{Ended, MoreWork}
use Rattle.basis_core.specs.declared.event.Event.{Event}
use Rattle.basis_core.specs.declared.event.Event.TheVariants.{Take, Put, End, Stop}
use Rattle.basis_core.specs.declared.stop.StopReason.{StopReason}
pub use Rattle.pair_queue.specs.Outs.{outs_of}
use Rattle.basis_core.specs.Members.{MemberShown, members_of, setting_of}
use Rattle.basis_core.specs.Shown.{Shown}
use Rattle.basis_core.specs.Stops.{reason_of, stop_of}

-- an answer to a worker that would end
abbrev pub ending_of : Ending → plain.Ending
ending_of Ended = plain.Ended
ending_of MoreWork = plain.MoreWork

-- the reason of a Stop: the one that the event has, or else the one that is kept
abbrev pub reason_given : (n : ℕ) → Option StopReason → Option StopReason → plain.StopReason n
reason_given n kept (Some reason) = reason_of n reason
reason_given n (Some reason) None = reason_of n reason
reason_given n None None = plain.Memory

-- an event, with the members that it made and the reason that it gave
abbrev pub event_of : (n : ℕ) → List MemberShown → Option StopReason → Event → plain.Event n
event_of n ms kept (Take w skipped job) = plain.Take w skipped.items job.items
event_of n ms kept (Put w first count) = plain.Put w (members_of n (take count (drop first ms)))
event_of n ms kept (End w ending) = plain.End w (ending_of ending)
event_of n ms kept (Stop w reason) = plain.Stop w (reason_given n kept reason)

-- each event of a history
abbrev pub history_of : (n : ℕ) → List MemberShown → Option StopReason → List Event → List (plain.Event n)
history_of n ms kept es = map (λ e. event_of n ms kept e) es

-- what never changes
abbrev pub run_of : (n : ℕ) → Shown → Run n
run_of n s = record {
  setting = setting_of n s.shared;
  generators = sums_of n s.shared.generators;
  budget = s.budget;
  workers = s.workers;
  degree_limit = 65535;
  update = s.update;
}

-- what the events change
abbrev pub state_of : (n : ℕ) → Shown → State n
state_of n s = record {
  members = members_of n s.members;
  queue = s.queue;
  dropped = s.dropped;
  out = s.out;
  taken = s.taken;
  ended = s.ended;
  stop = stop_of n s.stop;
  history = history_of n s.members s.stop s.history;
}

-- ring, rank, generators, budget, number of workers and what is queued as members come are the same
pub record IsSameRun (old new : Shown) : Type 0 where
  pub shared : new.shared ≡ old.shared
  pub budget : new.budget ≡ old.budget
  pub workers : new.workers ≡ old.workers
  pub update : new.update ≡ old.update

-- the number of variables
abbrev pub variables_of : Shown → ℕ
variables_of s = variables s.shared.ring
