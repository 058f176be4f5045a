use Rattle.std.proofs.Common.{[], ap, refl, subst, sym, ◌++◌, ◌∙◌, ◌∷◌, ℕ}
use Rattle.basis_steps.specs.Steps as steps
use Rattle.basis_core.specs.Shown.{Shown}
use Rattle.basis_core.specs.Views.{ending_of, run_of, state_of, variables_of}
use Rattle.ruled_lock.specs.declared.law.View.{View}
use Rattle.ruled_lock.specs.Plays.{added, freed}
use Rattle.basis_core.specs.Logs.{Adds, Base, End, Noted, base, log}
use Rattle.basis_lock.proofs.Holding.{ends_stopped, hold_of}
use Rattle.basis_lock.proofs.May.{may_end}
use Rattle.basis_lock.proofs.calls.finish.Goals as goal

pub end-ending-requires : goal.end-ending-requires
end-ending-requires g c =
    let s : Shown = c.take-state.result in
    subst (λ (w : ℕ). steps.MayEnd (run_of (variables_of s) s) (state_of (variables_of s) s) w) (sym c.args.seat.now.own)
    (may_end s c.args.seat.now.place.me.0 c.kept.ensures.replays c.take-state.ensures.sees (base c.args.lock.now.table.shared.key.value) c.take-state.ensures.base c.requires.may)

pub put_event-requires-clause-event : goal.put_event-requires-clause-event
put_event-requires-clause-event g c =
    let more = c.end-ending.ensures.event in (
      End c.args.seat.now.worker (ending_of c.end-ending.result),
      more.0 ∙ ap (λ (u : View Noted Base). u.seen ++ (End c.args.seat.now.worker (ending_of c.end-ending.result) ∷ [])) (sym c.take-state.ensures.view),
      c.args.seat.now.own ∙ ap (λ (u : View Noted Base). u.worker) (sym c.take-state.ensures.view),
    )

pub put_event-requires-clause-base : goal.put_event-requires-clause-base
put_event-requires-clause-base g c = c.end-ending.ensures.event.1 ∙ c.take-state.ensures.base

pub returns-clause-end : goal.returns-clause-end
returns-clause-end g c =
    let s : Shown = c.take-state.result in
    let t : Shown = c.end-ending.new.self in
    let n : ℕ = variables_of s in
    let v : View Noted Base = c.args.seat.now.place.me.0 in
    let b : Base = base c.args.lock.now.table.shared.key.value in
    let e = c.end-ending.result in
    let more = subst (λ (w : ℕ). Adds (End w (ending_of e)) s t) c.args.seat.now.own c.end-ending.ensures.event in
    record {
      before = s;
      after = t;
      hold =
          hold_of b v (End v.worker (ending_of e)) c.put_event.new.place.me.0 s t c.take-state.ensures.sees c.take-state.ensures.base c.end-ending.ensures.run more refl
          (c.put_event.ensures.view ∙ ap (λ (u : View Noted Base). freed (added u (log t))) c.take-state.ensures.view)
          c.kept-2.ensures.replays;
      ends = subst (λ (w : ℕ). steps.Ends (run_of n s) (state_of n s) w (ending_of e) (state_of n t)) c.args.seat.now.own c.end-ending.ensures.step;
    }

pub returns-clause-stopped : goal.returns-clause-stopped
returns-clause-stopped g c = λ seen.
    ends_stopped c.take-state.result c.args.seat.now.place.me.0 c.end-ending.result c.kept.ensures.replays c.take-state.ensures.sees seen (c.end-ending.ensures.step).answers
