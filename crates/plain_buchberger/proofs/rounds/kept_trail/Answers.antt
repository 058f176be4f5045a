use Rattle.run_endings.proofs.Trails.{degree_stop}
use Rattle.plain_buchberger.proofs.rounds.kept_trail.Goals as goal

pub returns-in-Ok : goal.returns-in-Ok
returns-in-Ok c =
    degree_stop c.in-Some-Degree.trail c.in-Ok.copy c.in-Ok.ensures c.args.state.now (rw c.in-Some-Degree.field-0-is at c.in-Some-Degree.ensures) c.kept.ensures.stop c.kept.ensures.holds
