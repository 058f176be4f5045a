use Rattle.core_histories.proofs.play.stop.Goals as goal

pub returns : goal.returns
returns c w o e =
    let old = c.requires.waiting w o e in
    (old.0, c.pending_outcomes.ensures.stop c.args.state.now c.stop.new.self c.args.worker _ o c.stop.ensures.step c.stop.ensures.run c.stop.ensures.members old.1)
