use Rattle.std.proofs.Common.{arith, refl, subst, sym, ℕ}
use Rattle.basis_steps.specs.Steps as steps
use Rattle.basis_core.specs.Inside.{shown}
use Rattle.basis_core.specs.Logs.{Adds, Stop as StopNote}
use Rattle.basis_core.specs.Shown.{Shown}
use Rattle.basis_core.specs.Stops.{reason_of}
use Rattle.basis_core.specs.Views.{run_of, state_of, variables_of}
use Rattle.basis_core.proofs.Logging.{stops_more}
use Rattle.basis_core.proofs.Room.{room_to_stop}
use Rattle.basis_core.proofs.Stopping.{KeepsFirst, MayStop, after_stop, stop_kept, stop_step}
use Rattle.basis_core.proofs.state.BasisState.stop.Goals as goal

pub push_reserved-requires : goal.push_reserved-requires
push_reserved-requires c =
    let s : Shown = shown c.self.inside in
    let w : ℕ = c.args.worker in
    let may : MayStop w s c.args.reason = subst (λ (z : Shown). MayStop w z c.args.reason) (sym c.self.view_is)
    (record { known = c.requires.known; first = c.requires.first; why = c.requires.reason }) in
    omega (arith, c.self.inside.history.ok, room_to_stop (state_of (variables_of s) s) s.workers w may.known may.first, c.self.invariant.room)

pub invariant_of-self : goal.invariant_of-self
invariant_of-self c =
    let s : Shown = shown c.self.inside in
    let w : ℕ = c.args.worker in
    let may : MayStop w s c.args.reason = subst (λ (z : Shown). MayStop w z c.args.reason) (sym c.self.view_is)
    (record { known = c.requires.known; first = c.requires.first; why = c.requires.reason }) in
    let keeps : KeepsFirst s.stop c.keep_first-later.new.kept c.args.reason c.keep_first-later.result =
    record { first = c.keep_first-later.ensures.first; later = c.keep_first-later.ensures.later } in
    stop_kept c.self.inside w c.args.reason c.keep_first-later.new.kept c.keep_first-later.result c.push_reserved.new.self c.self.invariant may keeps
    c.push_reserved.ensures.items c.push_reserved.ensures.capacity

pub returns-clause-step : goal.returns-clause-step
returns-clause-step c =
    let s : Shown = shown c.self.inside in
    let w : ℕ = c.args.worker in
    let may : MayStop w s c.args.reason = subst (λ (z : Shown). MayStop w z c.args.reason) (sym c.self.view_is)
    (record { known = c.requires.known; first = c.requires.first; why = c.requires.reason }) in
    let keeps : KeepsFirst s.stop c.keep_first-later.new.kept c.args.reason c.keep_first-later.result =
    record { first = c.keep_first-later.ensures.first; later = c.keep_first-later.ensures.later } in
    let t : Shown = after_stop s c.keep_first-later.new.kept c.push_reserved.new.self.items in
    subst (λ (z : Shown). steps.Stops (run_of (variables_of z) z) (state_of (variables_of z) z) w (reason_of (variables_of z) c.args.reason)
    (state_of (variables_of z) t)) c.self.view_is
    (stop_step s w c.args.reason c.keep_first-later.new.kept c.keep_first-later.result c.push_reserved.new.self.items may keeps c.self.invariant.read
    c.push_reserved.ensures.items)

pub returns-clause-event : goal.returns-clause-event
returns-clause-event c =
    let s : Shown = shown c.self.inside in
    let w : ℕ = c.args.worker in
    let t : Shown = after_stop s c.keep_first-later.new.kept c.push_reserved.new.self.items in
    subst (λ (z : Shown). Adds (StopNote w) z t) c.self.view_is
    (stops_more s t c.self.invariant.replays c.self.invariant.read
    (record { shared = refl; budget = refl; workers = refl; update = refl }) refl w c.keep_first-later.result c.push_reserved.ensures.items)
