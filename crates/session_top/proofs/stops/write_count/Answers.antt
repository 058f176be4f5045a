use Rattle.byte_ports.proofs.Endings.{all_two, front_before, front_two, no_text, on_err}
use Rattle.byte_ports.proofs.Risings.{caused, cause_after}
use Rattle.session_top.proofs.stops.write_count.Goals as goal

pub returns-in_err-write_all_to-clause-front : goal.returns-in_err-write_all_to-clause-front
returns-in_err-write_all_to-clause-front g c = on_err _ _ (front_before _ _ c.args.text.now _ c.in_err-write_all_to.ensures.front)

pub returns-clause-front : goal.returns-clause-front
returns-clause-front g c =
    let digits = rw (c.as_bytes.ensures.value, c.format.ensures.text) at c.write_all_to-2.ensures.front in
    front_two _ _ _ c.args.text.now _ _ c.in_ok-write_all_to.ensures.all digits

pub returns-in_err-write_all_to-clause-all : goal.returns-in_err-write_all_to-clause-all
returns-in_err-write_all_to-clause-all g c = no_text c.from_residual.result _ _ c.from_residual.ensures.1

pub returns-in_err-write_all_to-clause-cause : goal.returns-in_err-write_all_to-clause-cause
returns-in_err-write_all_to-clause-cause g c = caused _ _ _ c.in_err-write_all_to.ensures.cause.later c.in_err-write_all_to.ensures.cause.failed

pub returns-clause-all : goal.returns-clause-all
returns-clause-all g c =
    let digits = rw (c.as_bytes.ensures.value, c.format.ensures.text) at c.write_all_to-2.ensures.all in
    all_two _ _ _ c.args.text.now _ _ c.in_ok-write_all_to.ensures.all digits

pub returns-clause-cause : goal.returns-clause-cause
returns-clause-cause g c = cause_after _ _ _ _ c.in_ok-write_all_to.ensures.cause.later c.write_all_to-2.ensures.cause
