use Rattle.poly_text.proofs.Writing.{begins_more}
use Rattle.session_values.proofs.Appending.{err_behind, on_err}
use Rattle.session_reports.proofs.minimising.append_regularity.Goals as goal

pub returns-in_err-extend_from_slice-2-clause-err : goal.returns-in_err-extend_from_slice-2-clause-err
returns-in_err-extend_from_slice-2-clause-err c =
    on_err c.from_residual-in_err-extend_from_slice-2.result (rw c.in_err-extend_from_slice-2.ensures.items (_, c.in_ok-extend_from_slice.ensures.items))

pub returns-clause-err : goal.returns-clause-err
returns-clause-err c =
    let front =
    begins_more c.args.out.now c.extend_from_slice.new.self c.extend_from_slice-2.new.self _ (_, c.in_ok-extend_from_slice.ensures.items)
    c.in_ok-extend_from_slice-2.ensures.items in
    err_behind c.args.out.now c.extend_from_slice-2.new.self c.append_measures.new.out c.append_measures.result front
    c.append_measures.ensures.err
