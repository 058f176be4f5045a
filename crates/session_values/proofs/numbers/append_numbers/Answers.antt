use Rattle.std.proofs.Common.{ap₂, arith, subst, ◌++◌, ◌∙◌, ◌≡◌}
use Rattle.std.proofs.lemmas.Int.{ints, to_z-of_z}
use Rattle.std.proofs.lemmas.Result.{on_ok_weaker}
use Rattle.session_values.specs.Numbers.{coefficients_text, measures_text}
use Rattle.poly_text.proofs.Writing.{begins_more}
use Rattle.session_values.proofs.Appending.{err_behind, four_behind, on_err}
use Rattle.session_values.proofs.numbers.append_numbers.Goals as goal

pub returns-in_err-extend_from_slice-2-clause-err : goal.returns-in_err-extend_from_slice-2-clause-err
returns-in_err-extend_from_slice-2-clause-err c =
    on_err c.from_residual-in_err-extend_from_slice-2.result (rw c.in_err-extend_from_slice-2.ensures.items (_, c.in_ok-extend_from_slice.ensures.items))

pub returns-in_err-append_coefficients-clause-err : goal.returns-in_err-append_coefficients-clause-err
returns-in_err-append_coefficients-clause-err c =
    let out = c.args.out.now in
    let named = c.extend_from_slice-2.new.self in
    let word = c.extend_from_slice.new.self in
    let front = begins_more out word named _ (_, c.in_ok-extend_from_slice.ensures.items) c.in_ok-extend_from_slice-2.ensures.items in
    let more = c.in_err-append_coefficients.ensures.err in
    on_err c.from_residual-in_err-append_coefficients.result (begins_more out named c.append_coefficients.new.out more.0 front more.1)

pub returns-clause-err : goal.returns-clause-err
returns-clause-err c =
    let out = c.args.out.now in
    let named = c.extend_from_slice-2.new.self in
    let word = c.extend_from_slice.new.self in
    let numbers = c.append_coefficients.new.out in
    let front = begins_more out word named _ (_, c.in_ok-extend_from_slice.ensures.items) c.in_ok-extend_from_slice-2.ensures.items in
    err_behind out numbers c.append_measures.new.out c.append_measures.result
    (begins_more out named numbers _ front c.in_ok-append_coefficients.ensures.ok)
    c.append_measures.ensures.err

pub returns-clause-ok : goal.returns-clause-ok
returns-clause-ok c =
    let K = c.args.numbers.now.series.coefficients.items in
    four_behind c.args.out.now c.extend_from_slice.new.self c.extend_from_slice-2.new.self c.append_coefficients.new.out
    c.append_measures.new.out _ _ (coefficients_text K) (measures_text c.args.numbers.now.dimension c.args.numbers.now.degree)
    c.append_measures.result c.in_ok-extend_from_slice.ensures.items
    c.in_ok-extend_from_slice-2.ensures.items
    (subst (λ l. c.append_coefficients.new.out ≡ c.extend_from_slice-2.new.self ++ coefficients_text l) c.as_slice.ensures.value
    c.in_ok-append_coefficients.ensures.ok)
    (on_ok_weaker c.append_measures.result
    (λ e. e ∙ ap₂ (λ m n. c.append_coefficients.new.out ++ measures_text m n) (search (arith, ints, to_z-of_z)) (search (arith, ints, to_z-of_z)))
    c.append_measures.ensures.ok)
