use Rattle.session_values.proofs.Appending.{err_behind, on_err}
use Rattle.session_values.proofs.sizes.append_sizes.Goals as goal

pub returns-in_err-append_heading-clause-err : goal.returns-in_err-append_heading-clause-err
returns-in_err-append_heading-clause-err c = on_err c.from_residual.result c.in_err-append_heading.ensures.err

pub returns-clause-err : goal.returns-clause-err
returns-clause-err c =
    err_behind c.args.out.now c.append_heading.new.out c.append_degrees.new.out c.append_degrees.result
    (_, c.in_ok-append_heading.ensures.ok) c.append_degrees.ensures.err
