use Rattle.std.proofs.Common.{[], arith, subst, ◌∷◌, ◌≡◌}
use Rattle.basis_steps.specs.Histories.{took_since}
use Rattle.basis_core.specs.Views.{history_of}
use Rattle.basis_core.proofs.Asked.{took_more}
use Rattle.basis_core.proofs.asking.took_since_end.Goals as goal

pub loop-event-preserved : goal.loop-event-preserved
loop-event-preserved c n ms kept =
    took_more n ms kept c.args.worker c.args.history.now c.loop-event.event-index c.event-item.result c.loop-event.took c.took_after-took.result
    (omega arith) (c.loop-event.invariant n ms kept)
    (subst (λ e. c.took_after-took.result ≡ took_since c.args.worker (history_of n ms kept (e ∷ [])) c.loop-event.took) c.event-item.is
    (c.took_after-took.ensures n ms kept))
