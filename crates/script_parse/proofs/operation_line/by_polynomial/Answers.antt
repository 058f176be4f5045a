use Rattle.std.proofs.Common.{ap, subst, ◌∙◌}
use Rattle.script_forms.specs.declared.operands.Operands.TheVariants as shapes
use Rattle.script_parse.specs.Tests.{IsWorth}
use Rattle.script_parse.proofs.Stating.{polynomial_there, quotient_says, saturation_says}
use Rattle.script_parse.proofs.Working.{degree_by, first_workable, numerals_by, worth_by}
use Rattle.script_parse.proofs.operation_line.by_polynomial.Goals as goal

pub returns-in-Quotient : goal.returns-in-Quotient
returns-in-Quotient c = λ w e s.
    let worth : IsWorth c.args.ring.now c.args.line.now c.deref.result.now c.in-Ok.polynomial = record { vector = c.in-Ok.ensures.vector; polynomial = c.in-Ok.ensures.polynomial; value = λ x k. c.in-Ok.ensures.value x k } in
    quotient_says c.args.ring.now c.args.line.now c.args.polynomials.now c.args.value c.in_ok-name.name c.in-Ok.polynomial
    (record { first = c.in-Some.steps.now; more = _; pieces_are = c.in-Some.ensures.cases.0; workable = c.requires.workable; worth = subst (λ l. IsWorth c.args.ring.now c.args.line.now l c.in-Ok.polynomial) c.deref.ensures.value worth; name_is = c.in_ok-name.ensures })
    w (e ∙ ap (λ d. shapes.Polynomial d c.args.value) c.in-Quotient.is) s

pub returns-in-Saturate : goal.returns-in-Saturate
returns-in-Saturate c = λ w e s.
    let worth : IsWorth c.args.ring.now c.args.line.now c.deref.result.now c.in-Ok.polynomial = record { vector = c.in-Ok.ensures.vector; polynomial = c.in-Ok.ensures.polynomial; value = λ x k. c.in-Ok.ensures.value x k } in
    saturation_says c.args.ring.now c.args.line.now c.args.polynomials.now c.args.value c.in_ok-name.name c.in-Ok.polynomial
    (record { first = c.in-Some.steps.now; more = _; pieces_are = c.in-Some.ensures.cases.0; workable = c.requires.workable; worth = subst (λ l. IsWorth c.args.ring.now c.args.line.now l c.in-Ok.polynomial) c.deref.ensures.value worth; name_is = c.in_ok-name.ensures })
    w (e ∙ ap (λ d. shapes.Polynomial d c.args.value) c.in-Saturate.is) s

pub name_of-requires : goal.name_of-requires
name_of-requires c = c.requires.ascii

pub unreachable-requires : goal.unreachable-requires
unreachable-requires c =
    polynomial_there c.args.polynomials.now c.args.word c.args.value c.requires.written.0 c.requires.written.1 c.requires.written.2 c.in_default.ensures.cases

pub polynomial_value-requires-clause-worth : goal.polynomial_value-requires-clause-worth
polynomial_value-requires-clause-worth c =
    let able = first_workable c.args.ring.now c.args.line.now c.args.polynomials.now _ c.in-Some.steps.now c.in-Some.ensures.cases.0 c.requires.workable in
    worth_by c.args.ring.now c.args.line.now c.in-Some.steps.now c.deref.result.now c.deref.ensures.value able

pub polynomial_value-requires-clause-degree : goal.polynomial_value-requires-clause-degree
polynomial_value-requires-clause-degree c =
    let able = first_workable c.args.ring.now c.args.line.now c.args.polynomials.now _ c.in-Some.steps.now c.in-Some.ensures.cases.0 c.requires.workable in
    degree_by c.args.ring.now c.args.line.now c.in-Some.steps.now c.deref.result.now c.deref.ensures.value able

pub polynomial_value-requires-clause-numerals : goal.polynomial_value-requires-clause-numerals
polynomial_value-requires-clause-numerals c =
    let able = first_workable c.args.ring.now c.args.line.now c.args.polynomials.now _ c.in-Some.steps.now c.in-Some.ensures.cases.0 c.requires.workable in
    numerals_by c.args.ring.now c.args.line.now c.in-Some.steps.now c.deref.result.now c.deref.ensures.value able
