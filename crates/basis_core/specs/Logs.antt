-- The log of a run, its history as plain data without the number of variables: a note for each event, and what never changes
use Rattle.std.specs.Prelude.{List, [], drop, length, take, ℕ, ◌++◌, ◌+◌, ◌-◌, ◌∷◌, ◌≡◌}
use Rattle.queue_updates.specs.declared.Update.{Update}
use Rattle.basis_steps.specs.Pairs.{Pair}
use Rattle.basis_steps.specs.States as plain
use Rattle.basis_core.specs.declared.event.Event.{Event}
use Rattle.basis_core.specs.declared.event.Event.TheVariants as events
use Rattle.basis_core.specs.Members.{Shared, MemberShown}
use Rattle.basis_core.specs.Shown.{Shown}
use Rattle.basis_core.specs.Views.{ending_of}

-- ring, rank and generators; budget, workers and what is queued as members come; the members at the beginning
pub record Base : Type 0 where
  pub shared : Shared
  pub budget : ℕ
  pub workers : ℕ
  pub update : Update
  pub first : List MemberShown

-- an event of a worker: a Put with the members that it made
pub data Noted : Type 0 where
  Take : (worker : ℕ) (skipped job : List Pair) → Noted
  Put : (worker : ℕ) (made : List MemberShown) → Noted
  End : (worker : ℕ) (ending : plain.Ending) → Noted
  Stop : (worker : ℕ) → Noted

-- the worker
abbrev pub by : Noted → ℕ
by (Take w skipped job) = w
by (Put w made) = w
by (End w ending) = w
by (Stop w) = w

-- how many members the Puts made
abbrev pub count_made : List Event → ℕ
count_made [] = 0
count_made (events.Take w skipped job ∷ es) = count_made es
count_made (events.Put w first count ∷ es) = count + count_made es
count_made (events.End w ending ∷ es) = count_made es
count_made (events.Stop w reason ∷ es) = count_made es

-- the notes of these events, before which there were k members
abbrev pub notes_from : ℕ → List MemberShown → List Event → List Noted
notes_from k ms [] = []
notes_from k ms (events.Take w skipped job ∷ es) = Take w skipped.items job.items ∷ notes_from k ms es
notes_from k ms (events.Put w first count ∷ es) = Put w (take count (drop k ms)) ∷ notes_from (k + count) ms es
notes_from k ms (events.End w ending ∷ es) = End w (ending_of ending) ∷ notes_from k ms es
notes_from k ms (events.Stop w reason ∷ es) = Stop w ∷ notes_from k ms es

-- how many members there were at the beginning: those that no Put made
abbrev pub number_at_beginning : Shown → ℕ
number_at_beginning s = length s.members - count_made s.history

-- what never changes in the run
abbrev pub base : Shown → Base
base s = record {
  shared = s.shared;
  budget = s.budget;
  workers = s.workers;
  update = s.update;
  first = take (number_at_beginning s) s.members;
}

-- the history so far
abbrev pub log : Shown → List Noted
log s = notes_from (number_at_beginning s) s.members s.history

-- the number of workers
abbrev pub workers : Base → ℕ
workers b = b.workers

-- the members that the Puts made, in their order
abbrev pub made_in : List Noted → List MemberShown
made_in [] = []
made_in (Take w skipped job ∷ es) = made_in es
made_in (Put w made ∷ es) = made ++ made_in es
made_in (End w ending ∷ es) = made_in es
made_in (Stop w ∷ es) = made_in es

-- the members after these events: those of the beginning and those that Puts made
abbrev pub members_after : Base → List Noted → List MemberShown
members_after b es = b.first ++ made_in es

-- the event e is added to the log, and what never changes is the same
abbrev pub Adds : Noted → (old new : Shown) → Type 0
Adds e old new = (log new ≡ log old ++ (e ∷ [])) × (base new ≡ base old)
