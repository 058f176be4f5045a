use Rattle.std.proofs.Common.{Some, subst, sym, ◌≡◌}
use Rattle.basis_core.proofs.TakenPairs.{kept_stop}
use Rattle.basis_core.specs.Shown.{Shown}
use Rattle.basis_core.specs.declared.stop.StopReason.{StopReason}
use Rattle.basis_core.proofs.state.BasisState.take.Goals as goal

pub find_stop-requires-clause-stopped : goal.find_stop-requires-clause-stopped
find_stop-requires-clause-stopped c =
    subst (λ (z : Shown). (reason : StopReason) × (z.stop ≡ Some reason)) c.self.view_is (kept_stop c.self.inside.stop (sym c.if-is_some.ensures))
