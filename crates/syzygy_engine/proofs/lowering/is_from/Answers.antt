use Rattle.std.proofs.Common.{ap, arith, get_or, length, subst, ◌∙◌, ◌≤◌}
use Rattle.std.proofs.lemmas.List.{take_all}
use Rattle.formal_sums.specs.FormalSums.{Each}
use Rattle.syzygy_engine.proofs.LoweredTerms.{all_from, not_kept}
use Rattle.syzygy_engine.proofs.lowering.is_from.Goals as goal

pub returns-then-term-position : goal.returns-then-term-position
returns-then-term-position c = λ n.
    let i = c.loop-term.term-index in
    let t = c.term-item.result in
    let len = ap length c.terms-term-items.ensures in
    not_kept n c.args.position c.args.v.now i t (omega (arith, len)) (c.term-item.is ∙ ap (λ z. get_or z i t) c.terms-term-items.ensures) (omega arith)

pub returns : goal.returns
returns c = λ n.
    let items = c.terms-term-items.result.now in
    all_from n c.args.position c.args.v.now (subst (Each (λ t. c.args.position ≤ t.0.position)) (take_all c.loop-term.term-index items (omega arith) ∙ c.terms-term-items.ensures) c.loop-term.invariant)
