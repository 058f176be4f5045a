use Rattle.std.proofs.Common.{◌≡◌, ◌∙◌, ◌+◌, ◌-◌, ◌∷◌, ap, arith, drop, subst, sym}
use Rattle.std.proofs.lemmas.List.{drop_all, drop_more}
use Rattle.std.proofs.lemmas.Result.{on_err_weaker, on_ok_weaker}
use Rattle.poly_text.specs.Writing.{AscendsFrom, IsFront}
use Rattle.poly_text.proofs.Entries.{ascends_beyond, ascends_further, rest_ends, rest_step}
use Rattle.poly_text.proofs.Writing.{begins_more}
use Rattle.poly_text.proofs.vector.append_rest.Goals as goal

pub returns-then-position-rank-clause-ok : goal.returns-then-position-rank-clause-ok
returns-then-position-rank-clause-ok c =
    let i = c.loop-term.term-index in
    let here : drop i c.args.terms.now ≡ c.term-item.result ∷ drop (i + 1) c.args.terms.now
    = drop_more c.args.terms.now i c.term-item.result c.loop-term-test.true ∙ ap (λ u. u ∷ drop (i + 1) c.args.terms.now) (sym c.term-item.is) in
    on_ok_weaker c.push_zeros.result
    (λ k. rest_ends _ c.args.rank c.loop-term.last (c.args.rank - c.loop-term.last - 1) (drop i c.args.terms.now) c.loop-term.out c.push_zeros.new.self _
    c.loop-term.invariant.1 (omega arith)
    (ascends_beyond c.args.rank c.loop-term.last c.from-position.result c.term-item.result _ _ here c.if-position-rank.true c.from-position.ensures c.loop-term.invariant.2) k c.loop-term.invariant.3)
    c.push_zeros.ensures.ok

pub returns-then-position-rank-clause-err : goal.returns-then-position-rank-clause-err
returns-then-position-rank-clause-err c =
    on_err_weaker c.push_zeros.result
    (λ e. subst (IsFront c.args.out.now) (sym e) c.loop-term.invariant.0) c.push_zeros.ensures.err

pub loop-term-preserved : goal.loop-term-preserved
loop-term-preserved c =
    let i = c.loop-term.term-index in
    let here : drop i c.args.terms.now ≡ c.term-item.result ∷ drop (i + 1) c.args.terms.now
    = drop_more c.args.terms.now i c.term-item.result c.loop-term-test.true ∙ ap (λ u. u ∷ drop (i + 1) c.args.terms.now) (sym c.term-item.is) in (
      begins_more c.args.out.now c.append_between.new.out c.append_term.new.out _
          (begins_more c.args.out.now c.loop-term.out c.append_between.new.out _ c.loop-term.invariant.0 c.in-Ok.ensures.ok) c.in-Ok-append_term.ensures.ok,
      c.if-position-rank.false,
      ascends_further c.loop-term.last c.from-position.result c.term-item.result _ _ here c.from-position.ensures c.loop-term.invariant.2,
      rest_step _ c.args.rank c.loop-term.last c.from-position.result c.term-item.result _ _ c.loop-term.out c.append_between.new.out c.append_term.new.out _
          c.if-position-rank.false c.from-position.ensures here c.loop-term.invariant.2 c.in-Ok.ensures.ok c.in-Ok-append_term.ensures.ok c.loop-term.invariant.3,
    )

pub returns-clause-ok : goal.returns-clause-ok
returns-clause-ok c =
    let end = drop_all c.loop-term.term-index c.args.terms.now c.loop-term-test.false in
    let up : AscendsFrom c.args.rank (drop c.loop-term.term-index c.args.terms.now) = rw end tt in
    on_ok_weaker c.push_zeros-2.result
    (λ k. rest_ends _ c.args.rank c.loop-term.last (c.args.rank - c.loop-term.last - 1) (drop c.loop-term.term-index c.args.terms.now) c.loop-term.out
    c.push_zeros-2.new.self _ c.loop-term.invariant.1 (omega arith) up k c.loop-term.invariant.3)
    c.push_zeros-2.ensures.ok

pub returns-clause-err : goal.returns-clause-err
returns-clause-err c =
    on_err_weaker c.push_zeros-2.result
    (λ e. subst (IsFront c.args.out.now) (sym e) c.loop-term.invariant.0) c.push_zeros-2.ensures.err
