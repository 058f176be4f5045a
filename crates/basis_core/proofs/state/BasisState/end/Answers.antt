use Rattle.std.proofs.Common.{ap, arith, refl, subst, sym, ℕ}
use Rattle.basis_steps.specs.Steps as steps
use Rattle.basis_core.specs.Logs.{Adds, End as EndNote}
use Rattle.basis_core.specs.Inside.{shown}
use Rattle.basis_core.specs.Jobs.{pairs_of}
use Rattle.basis_core.specs.Shown.{Shown}
use Rattle.basis_core.specs.Views.{ending_of, run_of, state_of, variables_of}
use Rattle.basis_core.proofs.Endings.{IsEnd, MayEnd, after_end, end_answer, end_kept, end_step, works_within}
use Rattle.basis_core.proofs.Logging.{ends_more}
use Rattle.basis_core.proofs.Room.{room_to_end}
use Rattle.basis_core.proofs.state.BasisState.end.Goals as goal

pub mark_ended-requires : goal.mark_ended-requires
mark_ended-requires c =
    let s : Shown = shown c.self.inside in
    let may : MayEnd c.args.worker s = subst (MayEnd c.args.worker) (sym c.self.view_is) c.requires in
    works_within s.ended c.args.worker may.works

pub push_reserved-requires : goal.push_reserved-requires
push_reserved-requires c =
    let s : Shown = shown c.self.inside in
    let w : ℕ = c.args.worker in
    let may : MayEnd w s = subst (MayEnd w) (sym c.self.view_is) c.requires in
    omega (arith, c.self.inside.history.ok, room_to_end (state_of (variables_of s) s) s.workers w may.known may.works, c.self.invariant.room)

pub invariant_of-self : goal.invariant_of-self
invariant_of-self c =
    let s : Shown = shown c.self.inside in
    let w : ℕ = c.args.worker in
    let e = c.ending_at-ending.result in
    let end : IsEnd w s e c.mark_ended.new.ended.items = record {
      may = subst (MayEnd w) (sym c.self.view_is) c.requires;
      answers = end_answer (variables_of s) s e c.queued.result.now (ap pairs_of c.queued.ensures.queue) (c.ending_at-ending.ensures (variables_of s));
      marks = c.mark_ended.ensures.marks;
      leaves = c.mark_ended.ensures.leaves;
    } in
    end_kept c.self.inside w e c.mark_ended.new.ended c.push_reserved.new.self c.self.invariant end c.push_reserved.ensures.items
    c.push_reserved.ensures.capacity

pub returns-clause-step : goal.returns-clause-step
returns-clause-step c =
    let s : Shown = shown c.self.inside in
    let w : ℕ = c.args.worker in
    let e = c.ending_at-ending.result in
    let end : IsEnd w s e c.mark_ended.new.ended.items = record {
      may = subst (MayEnd w) (sym c.self.view_is) c.requires;
      answers = end_answer (variables_of s) s e c.queued.result.now (ap pairs_of c.queued.ensures.queue) (c.ending_at-ending.ensures (variables_of s));
      marks = c.mark_ended.ensures.marks;
      leaves = c.mark_ended.ensures.leaves;
    } in
    let t : Shown = after_end s c.mark_ended.new.ended.items c.push_reserved.new.self.items in
    subst (λ (z : Shown). steps.Ends (run_of (variables_of z) z) (state_of (variables_of z) z) w (ending_of e) (state_of (variables_of z) t)) c.self.view_is
    (end_step s w e c.mark_ended.new.ended.items c.push_reserved.new.self.items end c.self.invariant.read c.push_reserved.ensures.items)

pub returns-clause-event : goal.returns-clause-event
returns-clause-event c =
    let s : Shown = shown c.self.inside in
    let w : ℕ = c.args.worker in
    let e = c.ending_at-ending.result in
    let t : Shown = after_end s c.mark_ended.new.ended.items c.push_reserved.new.self.items in
    subst (λ (z : Shown). Adds (EndNote w (ending_of e)) z t) c.self.view_is
    (ends_more s t c.self.invariant.replays c.self.invariant.read
    (record { shared = refl; budget = refl; workers = refl; update = refl }) refl w e c.push_reserved.ensures.items)
