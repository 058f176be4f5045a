use Rattle.std.proofs.Common.{List, Option, false, take, ℕ, ◌≡◌}
use Rattle.basis_steps.specs.Histories.{took_since}
use Rattle.basis_core.specs.declared.stop.StopReason.{StopReason}
use Rattle.basis_core.specs.Members.{MemberShown}
use Rattle.basis_core.specs.Views.{history_of}
use Rattle.basis_core.proofs.asking.took_since_end.Given as goal

abbrev pub invariant-loop-event : goal.invariant-loop-event
invariant-loop-event l = (n : ℕ) (ms : List MemberShown) (kept : Option StopReason)
    → l.took ≡ took_since l.worker (history_of n ms kept (take l.event-index l.history)) false
