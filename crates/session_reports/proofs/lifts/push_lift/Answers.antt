use Rattle.session_values.specs.Kept.{value_of}
use Rattle.session_reports.proofs.Appended.{lift_told}
use Rattle.session_reports.proofs.lifts.push_lift.Goals as goal

pub returns-in-Err-clause-stop : goal.returns-in-Err-clause-stop
returns-in-Err-clause-stop g c = rw (c.list-list.ensures, c.from.ensures) at c.in-Err.ensures.stop

pub returns-in-Ok-push_lifted-clause-text : goal.returns-in-Ok-push_lifted-clause-text
returns-in-Ok-push_lifted-clause-text g c =
    lift_told c.args.ring.now (value_of c.args.info.now c.args.stored.now) c.list-list.result.now c.args.v.now c.len.result c.in-Ok.lifted c.args.out.now
    c.push_lifted.new.out c.list-list.ensures c.len.ensures c.in-Ok.ensures.lift c.in-Ok.ensures.cofactors c.in-Ok.ensures.none
    c.in-Ok-push_lifted.ensures.some
    c.in-Ok-push_lifted.ensures.none
