use Rattle.std.proofs.Common.{[], ap, refl, subst, sym, ◌++◌, ◌∙◌, ◌∷◌, ℕ}
use Rattle.basis_steps.specs.Histories.{HasStopped}
use Rattle.basis_steps.specs.Steps as steps
use Rattle.basis_core.specs.Shown.{Shown}
use Rattle.basis_core.specs.Stops.{reason_of}
use Rattle.basis_core.specs.Views.{run_of, state_of, variables_of}
use Rattle.ruled_lock.specs.declared.law.View.{View}
use Rattle.ruled_lock.specs.Plays.{added, freed}
use Rattle.basis_core.specs.Logs.{Adds, Base, Noted, Stop, base, log}
use Rattle.basis_lock.proofs.Holding.{hold_of}
use Rattle.basis_lock.proofs.May.{may_stop}
use Rattle.basis_lock.proofs.calls.report_stop.Goals as goal

pub stop-requires-clause-first : goal.stop-requires-clause-first
stop-requires-clause-first g c =
    let s : Shown = c.take-state.result in
    let h = (may_stop s c.args.seat.now.place.me.0 c.kept.ensures.replays c.take-state.ensures.sees (base c.args.lock.now.table.shared.key.value) c.args.reason c.take-state.ensures.base c.requires.may).1 in
    subst (λ (w : ℕ). HasStopped w (state_of (variables_of s) s).history → ⊥) (sym c.args.seat.now.own) h

pub stop-requires-clause-reason : goal.stop-requires-clause-reason
stop-requires-clause-reason g c =
    (may_stop c.take-state.result c.args.seat.now.place.me.0 c.kept.ensures.replays c.take-state.ensures.sees (base c.args.lock.now.table.shared.key.value) c.args.reason c.take-state.ensures.base c.requires.may).2

pub put_event-requires-clause-event : goal.put_event-requires-clause-event
put_event-requires-clause-event g c =
    let more = c.stop.ensures.event in (
      Stop c.args.seat.now.worker,
      more.0 ∙ ap (λ (u : View Noted Base). u.seen ++ (Stop c.args.seat.now.worker ∷ [])) (sym c.take-state.ensures.view),
      c.args.seat.now.own ∙ ap (λ (u : View Noted Base). u.worker) (sym c.take-state.ensures.view),
    )

pub put_event-requires-clause-base : goal.put_event-requires-clause-base
put_event-requires-clause-base g c = c.stop.ensures.event.1 ∙ c.take-state.ensures.base

pub returns-clause-stop : goal.returns-clause-stop
returns-clause-stop g c =
    let s : Shown = c.take-state.result in
    let t : Shown = c.stop.new.self in
    let n : ℕ = variables_of s in
    let v : View Noted Base = c.args.seat.now.place.me.0 in
    let b : Base = base c.args.lock.now.table.shared.key.value in
    let more = subst (λ (w : ℕ). Adds (Stop w) s t) c.args.seat.now.own c.stop.ensures.event in
    record {
      before = s;
      after = t;
      hold =
          hold_of b v (Stop v.worker) c.put_event.new.place.me.0 s t c.take-state.ensures.sees c.take-state.ensures.base c.stop.ensures.run more refl
          (c.put_event.ensures.view ∙ ap (λ (u : View Noted Base). freed (added u (log t))) c.take-state.ensures.view)
          c.kept-2.ensures.replays;
      stops = subst (λ (w : ℕ). steps.Stops (run_of n s) (state_of n s) w (reason_of n c.args.reason) (state_of n t)) c.args.seat.now.own c.stop.ensures.step;
    }
