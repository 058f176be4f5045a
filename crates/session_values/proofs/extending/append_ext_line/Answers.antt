use Rattle.std.proofs.Common.{◌∙◌}
use Rattle.poly_text.proofs.Writing.{begins_more}
use Rattle.session_values.proofs.Appending.{err_behind, named_behind, on_err}
use Rattle.session_values.proofs.extending.append_ext_line.Goals as goal

pub returns-in_err-append_word-clause-err : goal.returns-in_err-append_word-clause-err
returns-in_err-append_word-clause-err c =
    let more = c.in_err-append_word.ensures.err in
    on_err c.from_residual-in_err-append_word.result
    (begins_more c.args.out.now c.extend_from_slice.new.self c.append_word.new.out more.0 (_, c.in_ok-extend_from_slice.ensures.items) more.1)

pub returns-in_err-append_word-2-clause-err : goal.returns-in_err-append_word-2-clause-err
returns-in_err-append_word-2-clause-err c =
    let out = c.args.out.now in
    let word = c.extend_from_slice.new.self in
    let named = c.append_word.new.out in
    let front = begins_more out word named _ (_, c.in_ok-extend_from_slice.ensures.items) c.in_ok-append_word.ensures.ok in
    let more = c.in_err-append_word-2.ensures.err in
    on_err c.from_residual-in_err-append_word-2.result (begins_more out named c.append_word-2.new.out more.0 front more.1)

pub returns-clause-err : goal.returns-clause-err
returns-clause-err c =
    let out = c.args.out.now in
    let word = c.extend_from_slice.new.self in
    let named = c.append_word.new.out in
    let stepped = c.append_word-2.new.out in
    let front = begins_more out word named _ (_, c.in_ok-extend_from_slice.ensures.items) c.in_ok-append_word.ensures.ok in
    err_behind out stepped c.append_counts.new.out c.append_counts.result (begins_more out named stepped _ front c.in_ok-append_word-2.ensures.ok)
    c.append_counts.ensures.err

pub returns-clause-ok : goal.returns-clause-ok
returns-clause-ok c =
    named_behind c.args.out.now c.extend_from_slice.new.self c.append_word.new.out c.append_word-2.new.out c.append_counts.new.out
    _ c.args.name.now c.as_bytes.result.now _ _ 32 32 c.append_counts.result (c.as_bytes.ensures.value ∙ c.format.ensures.text)
    c.in_ok-extend_from_slice.ensures.items c.in_ok-append_word.ensures.ok c.in_ok-append_word-2.ensures.ok c.append_counts.ensures.ok
