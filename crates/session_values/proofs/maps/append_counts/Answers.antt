use Rattle.std.proofs.Common.{◌∙◌}
use Rattle.session_values.proofs.Appending.{err_behind, line_of_two, on_err}
use Rattle.session_values.proofs.maps.append_counts.Goals as goal

pub returns-in_err-append_word-clause-err : goal.returns-in_err-append_word-clause-err
returns-in_err-append_word-clause-err c = on_err c.from_residual.result c.in_err-append_word.ensures.err

pub returns-clause-err : goal.returns-clause-err
returns-clause-err c =
    err_behind c.args.out.now c.append_word.new.out c.append_word-2.new.out c.append_word-2.result (_, c.in_ok-append_word.ensures.ok)
    c.append_word-2.ensures.err

pub returns-clause-ok : goal.returns-clause-ok
returns-clause-ok c =
    line_of_two c.args.out.now c.append_word.new.out c.append_word-2.new.out c.as_bytes.result.now c.as_bytes-2.result.now _ _ 32 10
    c.append_word-2.result (c.as_bytes.ensures.value ∙ c.format.ensures.text) (c.as_bytes-2.ensures.value ∙ c.format-2.ensures.text)
    c.in_ok-append_word.ensures.ok c.append_word-2.ensures.ok
