use Rattle.std.proofs.Common.{length, refl}
use Rattle.hilbert_series.proofs.Loops.{apart_next, each_item}
use Rattle.hilbert_series.proofs.generators.is_apart.Goals as goal

pub loop-generator-preserved : goal.loop-generator-preserved
loop-generator-preserved c =
    let g = c.generator-item.result in
    let i = c.loop-generator.generator-index in
    let n = length c.args.weights.now in
    let w = each_item n c.args.weights.now c.args.list.now i g c.requires.generators c.loop-generator-test.true c.generator-item.is in
    apart_next n c.args.list.now i g c.args.p.now.exponents c.loop-generator-test.true c.generator-item.is w.variables
    (c.if-not-coprime.ensures.value.0 refl) c.loop-generator.invariant
