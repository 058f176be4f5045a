use Rattle.std.proofs.Common.{ap, refl, subst, ◌≡◌, ◌∙◌}
use Rattle.std.specs.Prelude.{not}
use Rattle.script_parse.proofs.Working.{all_ends, all_goes, item_of, low_is}
use Rattle.script_parse.specs.Tests.{AreStepsOfPolynomial, low_degree}
use Rattle.script_parse.proofs.checks.degrees_fit.Goals as goal

pub returns-then-is_none : goal.returns-then-is_none
returns-then-is_none c =
    let p = item_of AreStepsOfPolynomial c.args.polynomials.now c.loop-steps.steps-index c.steps-item.result c.requires c.loop-steps-test.true c.steps-item.is in
    let low = low_is c.new-names.result.ring.now c.args.line.now c.steps-item.result.items p.0 c.in_ok-formal_degree.field-0 c.is_none.result p.1 (c.in_ok-formal_degree.ensures p.0 (c.deref.ensures.value ∙ p.1)) c.is_none.ensures in
    let here = subst (λ r. low_degree r c.args.line.now c.steps-item.result.items ≡ not c.is_none.result) c.new-names.ensures low in
    all_ends (λ v. low_degree c.args.ring.now c.args.line.now v.items) c.args.polynomials.now c.loop-steps.steps-index c.steps-item.result c.loop-steps-test.true c.steps-item.is c.loop-steps.invariant (here ∙ ap not c.if-is_none.true)

pub loop-steps-preserved : goal.loop-steps-preserved
loop-steps-preserved c =
    let p = item_of AreStepsOfPolynomial c.args.polynomials.now c.loop-steps.steps-index c.steps-item.result c.requires c.loop-steps-test.true c.steps-item.is in
    let low = low_is c.new-names.result.ring.now c.args.line.now c.steps-item.result.items p.0 c.in_ok-formal_degree.field-0 c.is_none.result p.1 (c.in_ok-formal_degree.ensures p.0 (c.deref.ensures.value ∙ p.1)) c.is_none.ensures in
    let here = subst (λ r. low_degree r c.args.line.now c.steps-item.result.items ≡ not c.is_none.result) c.new-names.ensures low in
    all_goes (λ v. low_degree c.args.ring.now c.args.line.now v.items) c.args.polynomials.now c.loop-steps.steps-index c.steps-item.result c.loop-steps-test.true c.steps-item.is c.loop-steps.invariant (here ∙ ap not c.if-is_none.false)

pub loop-steps-init : goal.loop-steps-init
loop-steps-init c = refl
