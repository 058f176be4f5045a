use Rattle.std.proofs.Common.{codes}
use Rattle.byte_ports.proofs.Endings.{front_after, all_both, front_before, no_text, on_err, after_both}
use Rattle.byte_ports.proofs.Risings.{caused, cause_after, le_then, rose_later}
use Rattle.session_top.proofs.lines.write_error_line.Goals as goal

pub returns-in_err-write_all_to-clause-front : goal.returns-in_err-write_all_to-clause-front
returns-in_err-write_all_to-clause-front g c = on_err _ _ (front_before _ _ (codes "error ") _ c.in_err-write_all_to.ensures.front)

pub returns-in_err-write_all_to-2-clause-front : goal.returns-in_err-write_all_to-2-clause-front
returns-in_err-write_all_to-2-clause-front g c =
    let digits = rw (c.as_bytes.ensures.value, c.format.ensures.text) at c.in_err-write_all_to-2.ensures.front in
    on_err _ _ (front_after _ _ _ (codes "error ") _ c.in_ok-write_all_to.ensures.all (front_before _ _ _ _ digits))

pub returns-clause-front : goal.returns-clause-front
returns-clause-front g c =
    let digits = rw (c.as_bytes.ensures.value, c.format.ensures.text) at c.in_ok-write_all_to-2.ensures.all in
    after_both _ _ _ _ (codes "error ") _ _ _ _ c.in_ok-write_all_to.ensures.all digits c.error_end.ensures c.write_all_to-3.ensures.front

pub returns-in_err-write_all_to-clause-all : goal.returns-in_err-write_all_to-clause-all
returns-in_err-write_all_to-clause-all g c = no_text c.from_residual.result _ _ c.from_residual.ensures.1

pub returns-in_err-write_all_to-clause-cause : goal.returns-in_err-write_all_to-clause-cause
returns-in_err-write_all_to-clause-cause g c = caused _ _ _ c.in_err-write_all_to.ensures.cause.later c.in_err-write_all_to.ensures.cause.failed

pub returns-in_err-write_all_to-2-clause-all : goal.returns-in_err-write_all_to-2-clause-all
returns-in_err-write_all_to-2-clause-all g c = no_text c.from_residual-in_err-write_all_to-2.result _ _ c.from_residual-in_err-write_all_to-2.ensures.1

pub returns-in_err-write_all_to-2-clause-cause : goal.returns-in_err-write_all_to-2-clause-cause
returns-in_err-write_all_to-2-clause-cause g c =
    let first = c.in_ok-write_all_to.ensures.cause.later in
    let second = c.in_err-write_all_to-2.ensures.cause in
    caused _ _ _ (le_then _ _ _ first second.later) (rose_later _ _ _ first second.failed)

pub returns-clause-all : goal.returns-clause-all
returns-clause-all g c =
    let digits = rw (c.as_bytes.ensures.value, c.format.ensures.text) at c.in_ok-write_all_to-2.ensures.all in
    all_both _ _ _ _ (codes "error ") _ _ _ _ c.in_ok-write_all_to.ensures.all digits c.error_end.ensures c.write_all_to-3.ensures.all

pub returns-clause-cause : goal.returns-clause-cause
returns-clause-cause g c =
    cause_after _ _ _ _ (le_then _ _ _ c.in_ok-write_all_to.ensures.cause.later c.in_ok-write_all_to-2.ensures.cause.later) c.write_all_to-3.ensures.cause
