use Rattle.poly_text.proofs.Writing.{begins_more}
use Rattle.session_values.proofs.Appending.{on_err}
use Rattle.session_reports.proofs.minimising.append_measures.Goals as goal

pub returns-in_err-append_number-clause-err : goal.returns-in_err-append_number-clause-err
returns-in_err-append_number-clause-err c = on_err c.from_residual.result c.in_err-append_number.ensures.err

pub returns-in_err-append_number-2-clause-err : goal.returns-in_err-append_number-2-clause-err
returns-in_err-append_number-2-clause-err c =
    let more = c.in_err-append_number-2.ensures.err in
    on_err c.from_residual-in_err-append_number-2.result
    (begins_more c.args.out.now c.append_number.new.out c.append_number-2.new.out more.0 (_, c.in_ok-append_number.ensures.ok) more.1)

pub returns-in_err-push-clause-err : goal.returns-in_err-push-clause-err
returns-in_err-push-clause-err c =
    on_err c.from_residual-in_err-push.result
    (rw c.in_err-push.ensures.items
    (begins_more c.args.out.now c.append_number.new.out c.append_number-2.new.out _ (_, c.in_ok-append_number.ensures.ok)
    c.in_ok-append_number-2.ensures.ok))
