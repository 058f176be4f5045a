use Rattle.std.proofs.Common.{ap, subst, sym, ℕ, ◌∙◌}
use Rattle.basis_core.specs.Outcomes.{OutcomeShown}
use Rattle.basis_core.specs.Pending.{MayPutOutcome}
use Rattle.basis_core.specs.Shown.{Shown}
use Rattle.core_histories.specs.Waiting.{AreWaiting}
use Rattle.basis_core.specs.Answers.{AnswersTake}
use Rattle.basis_core.specs.declared.taken.Taken.TheVariants as taken
use Rattle.core_histories.proofs.After.{same_state, waits_on, waits_too}
use Rattle.core_histories.proofs.play.take.Goals as goal

pub returns-in-Ok-Empty : goal.returns-in-Ok-Empty
returns-in-Ok-Empty g c =
    waits_on c.args.state.now c.take.new.self c.args.worker c.args.waiting.now.items c.take_back.new.waiting.items c.requires.waiting
    (λ o apart may. c.pending_outcomes.ensures.take c.args.state.now c.take.new.self c.args.worker c.args.most c.in-Ok-Empty.field-0 o c.in-Ok-Empty.ensures.step c.take.ensures.run c.take.ensures.members apart may)
    c.take_back.ensures.others c.take_back.ensures.here

pub returns-in-Ok-Stopped : goal.returns-in-Ok-Stopped
returns-in-Ok-Stopped g c =
    waits_on c.args.state.now c.take.new.self c.args.worker c.args.waiting.now.items c.take_back.new.waiting.items c.requires.waiting
    (λ o apart may. c.pending_outcomes.ensures.take c.args.state.now c.take.new.self c.args.worker c.args.most c.in-Ok-Stopped.field-0 o c.in-Ok-Stopped.ensures.step c.take.ensures.run c.take.ensures.members apart may)
    c.take_back.ensures.others c.take_back.ensures.here

pub returns-in-Err : goal.returns-in-Err
returns-in-Err g c =
    subst (λ (t : Shown). AreWaiting t c.take_back.new.waiting.items) (sym c.in-Err.ensures.err)
    (waits_on c.args.state.now c.args.state.now c.args.worker c.args.waiting.now.items c.take_back.new.waiting.items c.requires.waiting (same_state c.args.state.now c.args.worker) c.take_back.ensures.others c.take_back.ensures.here)

pub returns-in-Ok : goal.returns-in-Ok
returns-in-Ok g c =
    let s : Shown = c.args.state.now in
    let t : Shown = c.take.new.self in
    let w : ℕ = c.args.worker in
    let o : OutcomeShown = c.in-Ok.outcome in
    let given = c.in-Ok-Job.field-0-is ∙ ap taken.Job (sym c.in-Ok.ensures.job) in
    let answers : AnswersTake w t (taken.Job o.job) = subst (AnswersTake w t) given c.in-Ok-Job.ensures.answer in
    let may : MayPutOutcome t o = c.pending_outcomes.ensures.taken s t w c.args.most c.in-Ok-Job.field-0 o c.requires.may c.in-Ok-Job.ensures.step c.take.ensures.run c.in-Ok-Job.ensures.answer given in
    let before : AreWaiting t c.take_back.new.waiting.items =
    waits_on s t w c.args.waiting.now.items c.take_back.new.waiting.items c.requires.waiting
    (λ q apart old. c.pending_outcomes.ensures.take s t w c.args.most c.in-Ok-Job.field-0 q c.in-Ok-Job.ensures.step c.take.ensures.run c.take.ensures.members apart old)
    c.take_back.ensures.others c.take_back.ensures.here in
    waits_too t w c.take_back.new.waiting.items c.put_aside.new.waiting.items o before answers.1 may c.put_aside.ensures.here c.put_aside.ensures.others

pub returns : goal.returns
returns g c =
    waits_on c.args.state.now c.take.new.self c.args.worker c.args.waiting.now.items c.take_back.new.waiting.items c.requires.waiting
    (λ o apart may. c.pending_outcomes.ensures.take c.args.state.now c.take.new.self c.args.worker c.args.most c.in-Ok-Job.field-0 o c.in-Ok-Job.ensures.step c.take.ensures.run c.take.ensures.members apart may)
    c.take_back.ensures.others c.take_back.ensures.here
