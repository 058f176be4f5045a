use Rattle.std.proofs.Common.{length, refl, sym}
use Rattle.monomials.specs.Exponents.{exponents_of}
use Rattle.hilbert_series.proofs.Loops.{divides_false, divides_true, each_item, has_divisor_item, has_divisor_next}
use Rattle.hilbert_series.proofs.generators.is_multiple.Goals as goal

pub returns-then-divides : goal.returns-then-divides
returns-then-divides c =
    let g = c.generator-item.result in
    let i = c.loop-generator.generator-index in
    let n = length c.args.weights.now in
    let w = each_item n c.args.weights.now c.args.list.now i g c.requires.generators c.loop-generator-test.true c.generator-item.is in
    sym (has_divisor_item n c.args.list.now i g (exponents_of n c.args.m.now.exponents) c.loop-generator-test.true c.generator-item.is
    (divides_true n g.exponents c.args.m.now.exponents w.variables (c.if-divides.ensures.value.0 refl)))

pub loop-generator-preserved : goal.loop-generator-preserved
loop-generator-preserved c =
    let g = c.generator-item.result in
    let i = c.loop-generator.generator-index in
    let n = length c.args.weights.now in
    let w = each_item n c.args.weights.now c.args.list.now i g c.requires.generators c.loop-generator-test.true c.generator-item.is in
    has_divisor_next n c.args.list.now i g (exponents_of n c.args.m.now.exponents) c.loop-generator-test.true c.generator-item.is
    (divides_false n g.exponents c.args.m.now.exponents w.variables (λ d. c.if-divides.ensures.value.1 d)) c.loop-generator.invariant
