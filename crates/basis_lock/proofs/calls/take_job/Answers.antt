use Rattle.std.proofs.Common.{[], ap, refl, subst, sym, ◌++◌, ◌∙◌, ◌∷◌, ℕ}
use Rattle.basis_steps.specs.Steps as steps
use Rattle.basis_core.specs.Answers.{AnswersTake, IsTakeOf, pairs_given}
use Rattle.basis_core.specs.Shown.{Shown}
use Rattle.basis_core.specs.Views.{run_of, state_of, variables_of}
use Rattle.ruled_lock.specs.declared.law.View.{View}
use Rattle.ruled_lock.specs.Plays.{added, freed}
use Rattle.basis_core.specs.Logs.{Adds, Base, Noted, Take, base, log}
use Rattle.basis_lock.proofs.Holding.{hold_of}
use Rattle.basis_lock.proofs.May.{may_take}
use Rattle.basis_lock.proofs.calls.take_job.Goals as goal

pub take-requires : goal.take-requires
take-requires g c =
    let s : Shown = c.take-state.result in
    let v : View Noted Base = c.args.seat.now.place.me.0 in
    subst (λ (w : ℕ). steps.MayTake (run_of (variables_of s) s) (state_of (variables_of s) s) w c.args.most) (sym c.args.seat.now.own)
    (may_take s v c.kept.ensures.replays c.take-state.ensures.sees (base c.args.lock.now.table.shared.key.value) c.args.most c.take-state.ensures.base c.requires.may)

pub put_event-requires-clause-event : goal.put_event-requires-clause-event
put_event-requires-clause-event g c =
    let more = (c.in-Ok.ensures.step).1 in (
      Take c.args.seat.now.worker (c.in-Ok.ensures.step).0 (pairs_given c.in-Ok.taken),
      more.0 ∙ ap (λ (u : View Noted Base). u.seen ++ (Take c.args.seat.now.worker (c.in-Ok.ensures.step).0 (pairs_given c.in-Ok.taken) ∷ [])) (sym c.take-state.ensures.view),
      c.args.seat.now.own ∙ ap (λ (u : View Noted Base). u.worker) (sym c.take-state.ensures.view),
    )

pub put_event-requires-clause-base : goal.put_event-requires-clause-base
put_event-requires-clause-base g c = (c.in-Ok.ensures.step).1.1 ∙ c.take-state.ensures.base

pub returns-in-Ok-clause-took : goal.returns-in-Ok-clause-took
returns-in-Ok-clause-took g c =
    let s : Shown = c.take-state.result in
    let t : Shown = c.take.new.self in
    let v : View Noted Base = c.args.seat.now.place.me.0 in
    let b : Base = base c.args.lock.now.table.shared.key.value in
    let took = c.in-Ok.ensures.step in
    let more = subst (λ (w : ℕ). Adds (Take w took.0 (pairs_given c.in-Ok.taken)) s t) c.args.seat.now.own took.1 in
    record {
      before = s;
      after = t;
      skipped = took.0;
      hold =
          hold_of b v (Take v.worker took.0 (pairs_given c.in-Ok.taken)) c.put_event.new.place.me.0 s t c.take-state.ensures.sees c.take-state.ensures.base c.in-Ok.ensures.run more refl
          (c.put_event.ensures.view ∙ ap (λ (u : View Noted Base). freed (added u (log t))) c.take-state.ensures.view)
          c.kept-in-Ok.ensures.replays;
      taken = subst (λ (w : ℕ). IsTakeOf (variables_of s) s w c.args.most took.0 c.in-Ok.taken t) c.args.seat.now.own took.2;
      answers = subst (λ (w : ℕ). AnswersTake w t c.in-Ok.taken) c.args.seat.now.own c.in-Ok.ensures.answer;
    }
