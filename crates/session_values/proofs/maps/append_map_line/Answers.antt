use Rattle.std.proofs.Common.{◌∙◌}
use Rattle.poly_text.proofs.Writing.{begins_more}
use Rattle.session_values.proofs.Appending.{err_behind, on_err, text_behind}
use Rattle.session_values.proofs.maps.append_map_line.Goals as goal

pub returns-in_err-append_word-clause-err : goal.returns-in_err-append_word-clause-err
returns-in_err-append_word-clause-err c =
    let more = c.in_err-append_word.ensures.err in
    on_err c.from_residual-in_err-append_word.result
    (begins_more c.args.out.now c.extend_from_slice.new.self c.append_word.new.out more.0 (_, c.in_ok-extend_from_slice.ensures.items) more.1)

pub returns-clause-err : goal.returns-clause-err
returns-clause-err c =
    let front =
    begins_more c.args.out.now c.extend_from_slice.new.self c.append_word.new.out _ (_, c.in_ok-extend_from_slice.ensures.items)
    c.in_ok-append_word.ensures.ok in
    err_behind c.args.out.now c.append_word.new.out c.append_counts.new.out c.append_counts.result front c.append_counts.ensures.err

pub returns-clause-ok : goal.returns-clause-ok
returns-clause-ok c =
    text_behind c.args.out.now c.extend_from_slice.new.self c.append_word.new.out c.append_counts.new.out _ c.as_bytes.result.now _ _ 32
    c.append_counts.result (c.as_bytes.ensures.value ∙ c.format.ensures.text) c.in_ok-extend_from_slice.ensures.items c.in_ok-append_word.ensures.ok
    c.append_counts.ensures.ok
