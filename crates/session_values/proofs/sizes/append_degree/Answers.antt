use Rattle.session_values.proofs.Appending.{err_behind, on_err}
use Rattle.session_values.proofs.sizes.append_degree.Goals as goal

pub returns-in_err-append_word-clause-err : goal.returns-in_err-append_word-clause-err
returns-in_err-append_word-clause-err c = on_err c.from_residual.result c.in_err-append_word.ensures.err

pub returns-clause-err : goal.returns-clause-err
returns-clause-err c =
    err_behind c.args.out.now c.append_word.new.out c.append_word-2.new.out c.append_word-2.result (_, c.in_ok-append_word.ensures.ok)
    c.append_word-2.ensures.err
