-- What contracts see of the state of a run
use Rattle.std.specs.Prelude.{Bool, List, Option, ℕ}
use Rattle.queue_updates.specs.declared.Update.{Update}
use Rattle.basis_steps.specs.Pairs.{Drop, Pair}
use Rattle.basis_core.specs.Members.{Shared, MemberShown}
use Rattle.basis_core.specs.declared.event.Event.{Event}
use Rattle.basis_core.specs.declared.stop.StopReason.{StopReason}

-- ring, rank and generators; budget, workers and what is queued as members come; the members so far; the queued pairs; the pairs that new members dropped; the pairs that are out, each with its
-- worker; how many were taken; who has ended; the stop that is kept; the events so far
pub record Shown : Type 0 where
  pub shared : Shared
  pub budget : ℕ
  pub workers : ℕ
  pub update : Update
  pub members : List MemberShown
  pub queue : List Pair
  pub dropped : List Drop
  pub out : List (Pair × ℕ)
  pub taken : ℕ
  pub ended : List Bool
  pub stop : Option StopReason
  pub history : List Event
