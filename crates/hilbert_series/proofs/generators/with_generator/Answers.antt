use Rattle.std.proofs.Common.{ap, length, refl, ◌∙◌}
use Rattle.hilbert_series.proofs.Loops.{divides_true, with_next, with_same}
use Rattle.hilbert_series.proofs.generators.with_generator.Goals.{then-not-divides+in_ok-push_copy-2, else-not-divides}
use Rattle.hilbert_series.proofs.generators.with_generator.Goals as goal

pub loop-generator-preserved : goal.loop-generator-preserved
loop-generator-preserved c =
    let ws = c.args.weights.now in
    let n = length ws in
    let g = c.generator-item.result in
    let i = c.loop-generator.generator-index in
    elim c.if-not-divides.branch [
      | then-not-divides+in_ok-push_copy-2 w ↦
          with_next n ws c.args.p.now c.args.list.now c.loop-generator.all.items c.if-not-divides.all.items i g g
          c.loop-generator-test.true c.generator-item.is c.requires.generators refl
          (ap (λ a. a.items) w.all-is ∙ w.in_ok-push_copy-2.ensures.ok) c.loop-generator.invariant
      | else-not-divides w ↦
          with_same n ws c.args.p.now c.args.list.now c.loop-generator.all.items c.if-not-divides.all.items i g
          c.loop-generator-test.true c.generator-item.is
          (divides_true n c.args.p.now.exponents g.exponents c.requires.monomial.variables (w.if-not-divides.ensures.value.0 refl))
          (ap (λ a. a.items) w.all-is) c.loop-generator.invariant
    ]
