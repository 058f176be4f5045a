use Rattle.std.proofs.Common.{ap, subst, sym, ◌∙◌, ◌≡◌}
use Rattle.basis_core.specs.Shown.{Shown}
use Rattle.core_histories.specs.Waiting.{AreWaiting}
use Rattle.core_histories.proofs.After.{same_state, waits_on}
use Rattle.core_histories.proofs.play.put.Goals as goal

pub returns-in_default : goal.returns-in_default
returns-in_default c =
    waits_on c.args.state.now c.args.state.now c.args.worker c.args.waiting.now.items c.take_back.new.waiting.items c.requires (same_state c.args.state.now c.args.worker) c.take_back.ensures.others c.take_back.ensures.here

pub put-requires-clause-known : goal.put-requires-clause-known
put-requires-clause-known c = (c.requires c.args.worker c.in-Some.outcome (sym c.take_back.ensures.value ∙ c.in-Some.is)).1.known

pub put-requires-clause-out : goal.put-requires-clause-out
put-requires-clause-out c = (c.requires c.args.worker c.in-Some.outcome (sym c.take_back.ensures.value ∙ c.in-Some.is)).1.out

pub returns-in-Ok : goal.returns-in-Ok
returns-in-Ok c =
    let mine : c.in-Some.outcome.job.worker ≡ c.args.worker = (c.requires c.args.worker c.in-Some.outcome (sym c.take_back.ensures.value ∙ c.in-Some.is)).0 in
    waits_on c.args.state.now c.put.new.self c.args.worker c.args.waiting.now.items c.take_back.new.waiting.items c.requires
    (λ o apart may. c.pending_outcomes.ensures.put c.args.state.now c.put.new.self c.in-Some.outcome o c.in-Ok.ensures.step.0 c.in-Ok.ensures.step.1 c.put.ensures.run (λ e. apart (sym mine ∙ e)) may)
    c.take_back.ensures.others c.take_back.ensures.here

pub returns : goal.returns
returns c =
    subst (λ (t : Shown). AreWaiting t c.take_back.new.waiting.items) (sym c.in-Err.ensures.err)
    (waits_on c.args.state.now c.args.state.now c.args.worker c.args.waiting.now.items c.take_back.new.waiting.items c.requires (same_state c.args.state.now c.args.worker) c.take_back.ensures.others c.take_back.ensures.here)
