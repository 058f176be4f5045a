use Rattle.std.proofs.Common.{Bool, [], IsTrue, arith, false, refl, subst, sym, ◌∷◌, ◌≡◌}
use Rattle.basis_steps.specs.Histories.{HasStopped}
use Rattle.basis_core.specs.Views.{history_of}
use Rattle.basis_core.proofs.Asked.{not_stopped_more, stopped_at}
use Rattle.basis_core.proofs.asking.has_stopped.Goals as goal

pub returns-then-is_stop : goal.returns-then-is_stop
returns-then-is_stop c n ms kept = (
  λ _. stopped_at n ms kept c.args.worker c.args.history.now c.loop-event.event-index c.event-item.result (omega arith)
      (subst (λ e. HasStopped c.args.worker (history_of n ms kept (e ∷ []))) c.event-item.is ((c.is_stop.ensures n ms kept).0 c.if-is_stop.true)),
  λ _. refl,
)

pub loop-event-preserved : goal.loop-event-preserved
loop-event-preserved c n ms kept =
    not_stopped_more n ms kept c.args.worker c.args.history.now c.loop-event.event-index c.event-item.result (omega arith) (c.loop-event.invariant n ms kept)
    (λ h. never c.is_stop.result c.if-is_stop.false
    ((c.is_stop.ensures n ms kept).1 (subst (λ e. HasStopped c.args.worker (history_of n ms kept (e ∷ []))) (sym c.event-item.is) h)))
  where
    never : (b : Bool) → b ≡ false → IsTrue b → ⊥
    never b f t = absurd cc
