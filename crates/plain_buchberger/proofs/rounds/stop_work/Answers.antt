use Rattle.plain_buchberger.proofs.Taking.{keeps_after_stop}
use Rattle.plain_buchberger.proofs.rounds.stop_work.Goals as goal

pub kept_trail-requires : goal.kept_trail-requires
kept_trail-requires c = keeps_after_stop c.args.state.now c.stop.new.self c.in-Degree.trail c.requires.runs c.stop.ensures.step
