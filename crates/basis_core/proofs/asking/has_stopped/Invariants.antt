use Rattle.std.proofs.Common.{List, Option, take, ℕ}
use Rattle.basis_steps.specs.Histories.{HasStopped}
use Rattle.basis_core.specs.declared.stop.StopReason.{StopReason}
use Rattle.basis_core.specs.Members.{MemberShown}
use Rattle.basis_core.specs.Views.{history_of}
use Rattle.basis_core.proofs.asking.has_stopped.Given as goal

abbrev pub invariant-loop-event : goal.invariant-loop-event
invariant-loop-event l = (n : ℕ) (ms : List MemberShown) (kept : Option StopReason) → HasStopped l.worker (history_of n ms kept (take l.event-index l.history)) → ⊥
