use Rattle.std.proofs.Common.{sym, ◌∙◌}
use Rattle.std.proofs.lemmas.Result.{err_from_is_err_and}
use Rattle.std.proofs.lemmas.List.{append-nil, drop_all}
use Rattle.poly_text.proofs.Writing.{poly_with, begins_more}
use Rattle.poly_text.proofs.polynomial.append_terms.Goals as goal

pub returns-in_err-push-2-clause-err : goal.returns-in_err-push-2-clause-err
returns-in_err-push-2-clause-err c =
    let p = err_from_is_err_and c.from_residual-in_err-push-2.result c.from_residual-in_err-push-2.ensures.1 in
    rw (p.1, c.in_err-push-2.ensures.items)
    (begins_more c.args.out.now c.append_term.new.out c.loop-term.out c.loop-term.invariant.0.0
    (_, c.in_ok-append_term.ensures.ok) c.loop-term.invariant.0.1)

pub returns-clause-ok : goal.returns-clause-ok
returns-clause-ok c =
    let end = drop_all c.loop-term.term-index c.in-Some.rest.now c.loop-term-test.false in
    poly_with _ c.args.terms.now c.in-Some.first.now c.in-Some.rest.now c.args.out.now c.append_term.new.out c.loop-term.out
    c.in-Some.ensures.cases.0 c.in_ok-append_term.ensures.ok (sym (append-nil c.loop-term.out) ∙ (rw end at c.loop-term.invariant.1))
