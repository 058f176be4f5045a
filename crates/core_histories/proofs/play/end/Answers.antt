use Rattle.core_histories.proofs.After.{waits_on}
use Rattle.core_histories.proofs.play.end.Goals as goal

pub returns-in-Ended : goal.returns-in-Ended
returns-in-Ended c =
    waits_on c.args.state.now c.end.new.self c.args.worker c.args.waiting.now.items c.take_back.new.waiting.items c.requires.waiting
    (λ o apart may. c.pending_outcomes.ensures.end c.args.state.now c.end.new.self c.args.worker _ o c.end.ensures.step c.end.ensures.run c.end.ensures.members apart may)
    c.take_back.ensures.others c.take_back.ensures.here

pub returns-in-MoreWork : goal.returns-in-MoreWork
returns-in-MoreWork c =
    waits_on c.args.state.now c.end.new.self c.args.worker c.args.waiting.now.items c.take_back.new.waiting.items c.requires.waiting
    (λ o apart may. c.pending_outcomes.ensures.end c.args.state.now c.end.new.self c.args.worker _ o c.end.ensures.step c.end.ensures.run c.end.ensures.members apart may)
    c.take_back.ensures.others c.take_back.ensures.here
