use Rattle.std.proofs.Common.{[], arith, subst, sym}
use Rattle.std.proofs.lemmas.List.{take_all}
use Rattle.script_parse.proofs.Working.{degree_by, item_of, numerals_by, worth_by, worths_go}
use Rattle.script_parse.specs.Tests.{AreWorths, IsWorkable, IsWorth}
use Rattle.script_parse.proofs.values.list_value.Goals as goal

pub loop-steps-preserved : goal.loop-steps-preserved
loop-steps-preserved c =
    let worth : IsWorth c.args.ring.now c.args.line.now c.deref.result.now c.in_ok-value.value = record { vector = c.in_ok-value.ensures.vector; polynomial = c.in_ok-value.ensures.polynomial; value = λ x e. c.in_ok-value.ensures.value x e } in
    worths_go c.args.ring.now c.args.line.now c.args.polynomials.now c.loop-steps.steps-index c.steps-item.result c.loop-steps.list c.push.new.self c.in_ok-value.value c.loop-steps-test.true c.steps-item.is c.in_ok-push.ensures.ok c.loop-steps.invariant
    (subst (λ l. IsWorth c.args.ring.now c.args.line.now l c.in_ok-value.value) c.deref.ensures.value worth)

pub polynomial_value-requires-clause-worth : goal.polynomial_value-requires-clause-worth
polynomial_value-requires-clause-worth c =
    let ring = c.args.ring.now in
    let line = c.args.line.now in
    let item = c.steps-item.result in
    worth_by ring line item c.deref.result.now c.deref.ensures.value
    (item_of (IsWorkable ring line) c.args.polynomials.now c.loop-steps.steps-index item c.requires c.loop-steps-test.true c.steps-item.is)

pub polynomial_value-requires-clause-degree : goal.polynomial_value-requires-clause-degree
polynomial_value-requires-clause-degree c =
    let ring = c.args.ring.now in
    let line = c.args.line.now in
    let item = c.steps-item.result in
    degree_by ring line item c.deref.result.now c.deref.ensures.value
    (item_of (IsWorkable ring line) c.args.polynomials.now c.loop-steps.steps-index item c.requires c.loop-steps-test.true c.steps-item.is)

pub polynomial_value-requires-clause-numerals : goal.polynomial_value-requires-clause-numerals
polynomial_value-requires-clause-numerals c =
    let ring = c.args.ring.now in
    let line = c.args.line.now in
    let item = c.steps-item.result in
    numerals_by ring line item c.deref.result.now c.deref.ensures.value
    (item_of (IsWorkable ring line) c.args.polynomials.now c.loop-steps.steps-index item c.requires c.loop-steps-test.true c.steps-item.is)

pub loop-steps-init : goal.loop-steps-init
loop-steps-init c = subst (AreWorths c.args.ring.now c.args.line.now []) (sym c.new-list.ensures) tt

pub returns : goal.returns
returns c =
    subst (λ z. AreWorths c.args.ring.now c.args.line.now z c.loop-steps.list)
    (take_all c.loop-steps.steps-index c.args.polynomials.now (omega arith)) c.loop-steps.invariant
