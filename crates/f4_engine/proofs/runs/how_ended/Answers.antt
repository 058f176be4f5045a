use Rattle.run_endings.proofs.Trails.{degree_stop}
use Rattle.f4_engine.proofs.Begun.{budget_stop}
use Rattle.f4_engine.proofs.runs.how_ended.Goals as goal

pub returns-in-Ok : goal.returns-in-Ok
returns-in-Ok c =
    degree_stop c.in-Some-Degree.trail c.in-Ok.copy c.in-Ok.ensures c.args.state.now (rw c.in-Some-Degree.field-0-is at c.in-Some-Degree.ensures) c.kept.ensures.stop c.kept.ensures.holds

pub returns-in-Some-Pairs : goal.returns-in-Some-Pairs
returns-in-Some-Pairs c = budget_stop c.args.state.now c.kept.ensures.replays (rw c.in-Some-Pairs.field-0-is at c.in-Some-Pairs.ensures)
