use Rattle.plain_buchberger.proofs.Taking.{free_after_put}
use Rattle.plain_buchberger.proofs.Trails.{work_stops_of_put}
use Rattle.plain_buchberger.proofs.rounds.hand_in.Goals as goal

pub returns-in-Ok-clause-free : goal.returns-in-Ok-clause-free
returns-in-Ok-clause-free c =
    let step = c.in-Ok.ensures.step in
    free_after_put c.args.state.now c.put.new.self c.args.outcome step.0 c.requires c.put.ensures.run step.1

pub stop_work-requires-clause-stop : goal.stop_work-requires-clause-stop
stop_work-requires-clause-stop c = work_stops_of_put c.args.state.now c.put.new.self c.args.outcome c.in-Err.stop c.in-Err.ensures.err c.in-Err.ensures.stop
