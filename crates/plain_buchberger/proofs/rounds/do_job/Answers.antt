use Rattle.plain_buchberger.proofs.Trails.{work_stops_of_job}
use Rattle.plain_buchberger.proofs.rounds.do_job.Goals as goal

pub stop_work-requires-clause-stop : goal.stop_work-requires-clause-stop
stop_work-requires-clause-stop c = work_stops_of_job c.args.state.now c.args.job c.in-Err.stop c.requires c.in-Err.ensures.stop
