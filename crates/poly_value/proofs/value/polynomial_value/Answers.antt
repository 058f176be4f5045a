use Rattle.std.proofs.Common.{[], drop, refl, reverse, rules, ◌≡◌}
use Rattle.std.proofs.lemmas.List.{drop_all}
use Rattle.poly_value.proofs.Steps.{is_ready, normal_stands, starts, working_ends, working_has_top, working_on}
use Rattle.poly_value.proofs.value.polynomial_value.Goals as goal

pub loop-step-init : goal.loop-step-init
loop-step-init g c =
    rw c.new-stack.ensures.items (starts (g.F.Frame.over c.args.frame.now) c.args.line.now c.args.steps.now c.requires.worth.0 c.requires.degree.0 c.requires.worth.1 c.requires.degree.1 c.requires.numerals)

pub do_step-requires : goal.do_step-requires
do_step-requires g c =
    is_ready (g.F.Frame.over c.args.frame.now) c.args.line.now c.args.steps.now c.requires.worth.0 c.requires.degree.0 c.requires.worth.1 c.requires.degree.1
    c.loop-step.step-index _ _ (reverse c.loop-step.stack.items) c.loop-step-test.true refl c.loop-step.invariant

pub loop-step-preserved : goal.loop-step-preserved
loop-step-preserved g c =
    working_on (g.F.Frame.over c.args.frame.now) c.args.line.now c.args.steps.now c.requires.worth.0 c.requires.degree.0 c.requires.worth.1 c.requires.degree.1
    c.loop-step.step-index _ _ (reverse c.loop-step.stack.items) c.loop-step-test.true refl c.loop-step.invariant (reverse c.do_step.new.stack.items) c.in_ok-do_step.ensures

pub unreachable-requires : goal.unreachable-requires
unreachable-requires g c =
    let none : reverse c.loop-step.stack.items ≡ [] = search rules in
    working_has_top (g.F.Frame.over c.args.frame.now) c.args.line.now c.args.steps.now (drop c.loop-step.step-index c.args.steps.now) (reverse c.loop-step.stack.items) c.requires.worth.0
    (drop_all c.loop-step.step-index c.args.steps.now c.loop-step-test.false) none c.requires.worth.1 c.loop-step.invariant

pub returns-clause-value : goal.returns-clause-value
returns-clause-value g c = λ x w.
    let ring = g.F.Frame.over c.args.frame.now in
    normal_stands (λ v. v) ring x c.in-Some.sum.terms.items c.normal.result
    (working_ends ring c.args.line.now c.args.steps.now (drop c.loop-step.step-index c.args.steps.now) (reverse c.loop-step.stack.items) (reverse c.take_top.new.stack.items) c.in-Some.sum x
    (drop_all c.loop-step.step-index c.args.steps.now c.loop-step-test.false) c.in-Some.ensures w c.loop-step.invariant)
    c.normal.ensures.same
