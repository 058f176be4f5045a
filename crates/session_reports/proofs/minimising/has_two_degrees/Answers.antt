use Rattle.std.proofs.Common.{subst, sym, ◌∙◌, ◌≡◌}
use Rattle.std.proofs.lemmas.List.{take_all}
use Rattle.formal_sums.specs.FormalSums.{Each}
use Rattle.session_reports.proofs.MinimalMaps.{one_found, two_found}
use Rattle.session_reports.proofs.minimising.has_two_degrees.Goals as goal

pub returns-then-degree-clause-two : goal.returns-then-degree-clause-two
returns-then-degree-clause-two c = λ e.
    two_found c.args.v.now c.in-Some.rest.now c.in-Some.first.now c.term-item.result c.loop-term.term-index
    (sym c.terms.ensures ∙ c.in-Some.ensures.cases.0) c.loop-term-test.true (sym c.term-item.is)
    (λ z. c.if-degree.true (c.degree.ensures.value ∙ z ∙ sym c.degree-in-loop-term.ensures.value))

pub returns-clause-one : goal.returns-clause-one
returns-clause-one c = λ e.
    let first = c.in-Some.first.now in
    one_found c.args.v.now c.in-Some.rest.now first (sym c.terms.ensures ∙ c.in-Some.ensures.cases.0)
    (subst (λ l. Each (λ t. t.0.monomial.degree ≡ first.0.monomial.degree) l) (take_all c.loop-term.term-index c.in-Some.rest.now c.loop-term-test.false)
    c.loop-term.invariant)
