use Rattle.std.proofs.Common.{List, [], ap, length, refl, subst, sym, ◌++◌, ◌∙◌, ◌∷◌, ℕ}
use Rattle.basis_steps.specs.Steps as steps
use Rattle.basis_core.specs.Members.{MemberShown, members_of, reduct_rows_of}
use Rattle.basis_core.specs.Outcomes.{OutcomeShown, indexed_products_of}
use Rattle.basis_core.specs.Shown.{Shown}
use Rattle.basis_core.specs.Views.{run_of, state_of, variables_of}
use Rattle.ruled_lock.specs.declared.law.View.{View}
use Rattle.ruled_lock.specs.Plays.{added, freed}
use Rattle.basis_core.specs.Logs.{Adds, Base, Noted, Put, base, log}
use Rattle.basis_lock.proofs.Holding.{hold_of, put_stops}
use Rattle.basis_lock.proofs.May.{may_put}
use Rattle.basis_lock.proofs.calls.hand_in.Goals as goal

pub put-requires-clause-works : goal.put-requires-clause-works
put-requires-clause-works g c =
    (may_put c.take-state.result c.args.seat.now.place.me.0 c.kept.ensures.replays c.take-state.ensures.sees (base c.args.lock.now.table.shared.key.value) c.args.outcome c.take-state.ensures.base c.requires.may).1

pub put-requires-clause-out : goal.put-requires-clause-out
put-requires-clause-out g c =
    (may_put c.take-state.result c.args.seat.now.place.me.0 c.kept.ensures.replays c.take-state.ensures.sees (base c.args.lock.now.table.shared.key.value) c.args.outcome c.take-state.ensures.base c.requires.may).2

pub put_event-requires-clause-event : goal.put_event-requires-clause-event
put_event-requires-clause-event g c =
    let more = ((c.in-Ok.ensures.step).1).adds in (
      Put c.args.outcome.job.worker (c.in-Ok.ensures.step).0,
      more.0 ∙ ap (λ (u : View Noted Base). u.seen ++ (Put c.args.outcome.job.worker (c.in-Ok.ensures.step).0 ∷ [])) (sym c.take-state.ensures.view),
      c.requires.may.worker ∙ ap (λ (u : View Noted Base). u.worker) (sym c.take-state.ensures.view),
    )

pub put_event-requires-clause-base : goal.put_event-requires-clause-base
put_event-requires-clause-base g c = (((c.in-Ok.ensures.step).1).adds).1 ∙ c.take-state.ensures.base

pub returns-in-Ok-clause-put : goal.returns-in-Ok-clause-put
returns-in-Ok-clause-put g c =
    let s : Shown = c.take-state.result in
    let t : Shown = c.put.new.self in
    let n : ℕ = variables_of s in
    let v : View Noted Base = c.args.seat.now.place.me.0 in
    let b : Base = base c.args.lock.now.table.shared.key.value in
    let o : OutcomeShown = c.args.outcome in
    let made : List MemberShown = (c.in-Ok.ensures.step).0 in
    let put = (c.in-Ok.ensures.step).1 in
    let more = subst (λ (w : ℕ). Adds (Put w made) s t) c.requires.may.worker put.adds in
    record {
      before = s;
      after = t;
      made = made;
      members = put.members;
      hold =
          hold_of b v (Put v.worker made) c.put_event.new.place.me.0 s t c.take-state.ensures.sees c.take-state.ensures.base c.in-Ok.ensures.run more refl
          (c.put_event.ensures.view ∙ ap (λ (u : View Noted Base). freed (added u (log t))) c.take-state.ensures.view)
          c.kept-in-Ok.ensures.replays;
      puts =
          subst (λ (w : ℕ). steps.Puts (run_of n s) (state_of n s) w (length o.job.members) (reduct_rows_of n o.rows) (indexed_products_of n o.products) (members_of n made) (state_of n t))
          c.requires.may.worker put.puts;
    }

pub returns-in-Err-clause-stop : goal.returns-in-Err-clause-stop
returns-in-Err-clause-stop g c =
    let s : Shown = c.take-state.result in
    let view = c.put-in-Err.ensures.view ∙ ap (λ (u : View Noted Base). freed u) c.take-state.ensures.view in
    put_stops (base c.args.lock.now.table.shared.key.value) c.put-in-Err.new.place.me.0.seen s c.args.outcome c.in-Err.back.0 c.take-state.ensures.base (ap (λ (u : View Noted Base). u.seen) view) c.in-Err.ensures.stop
