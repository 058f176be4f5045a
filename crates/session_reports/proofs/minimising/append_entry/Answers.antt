use Rattle.std.proofs.Common.{◌∙◌}
use Rattle.poly_text.proofs.Writing.{begins_more}
use Rattle.session_values.proofs.Appending.{err_behind, line_of_three, on_err}
use Rattle.session_reports.proofs.minimising.append_entry.Goals as goal

pub returns-in_err-append_word-clause-err : goal.returns-in_err-append_word-clause-err
returns-in_err-append_word-clause-err c = on_err c.from_residual.result c.in_err-append_word.ensures.err

pub returns-in_err-append_word-2-clause-err : goal.returns-in_err-append_word-2-clause-err
returns-in_err-append_word-2-clause-err c =
    let more = c.in_err-append_word-2.ensures.err in
    on_err c.from_residual-in_err-append_word-2.result (begins_more c.args.out.now c.append_word.new.out c.append_word-2.new.out more.0
    (_, c.in_ok-append_word.ensures.ok) more.1)

pub returns-clause-err : goal.returns-clause-err
returns-clause-err c =
    let more = begins_more c.args.out.now c.append_word.new.out c.append_word-2.new.out _ (_, c.in_ok-append_word.ensures.ok)
    c.in_ok-append_word-2.ensures.ok in
    err_behind c.args.out.now c.append_word-2.new.out c.append_word-3.new.out c.append_word-3.result more c.append_word-3.ensures.err

pub returns-clause-ok : goal.returns-clause-ok
returns-clause-ok c =
    line_of_three c.args.out.now c.append_word.new.out c.append_word-2.new.out c.append_word-3.new.out
    c.as_bytes.result.now c.as_bytes-2.result.now c.as_bytes-3.result.now _ _ _ 32 32 10 c.append_word-3.result
    (c.as_bytes.ensures.value ∙ c.format.ensures.text) (c.as_bytes-2.ensures.value ∙ c.format-2.ensures.text)
    (c.as_bytes-3.ensures.value ∙ c.format-3.ensures.text)
    c.in_ok-append_word.ensures.ok c.in_ok-append_word-2.ensures.ok c.append_word-3.ensures.ok
