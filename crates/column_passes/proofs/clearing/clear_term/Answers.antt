use Rattle.std.proofs.Common.{ap, arith, ◌%◌, ◌-◌, ◌<◌, ◌∙◌, ◌≡◌}
use Rattle.column_passes.proofs.Clearings.{clear_here, clear_other, clear_stop, on_err, on_ok}
use Rattle.column_passes.proofs.clearing.clear_term.Goals as goal

pub returns-clause-sum : goal.returns-clause-sum
returns-clause-sum c =
    let ring = c.args.ring.now in
    let p = ring.modulus.value in
    let above : 1 < p = (c.lawful_setting.ensures 0).domain.above_one in
    let at : c.args.term.now.0.position ≡ c.args.row = omega arith in
    on_ok c.add_scaled.result _ _
    (λ h. clear_here ring c.args.row c.args.inverse c.args.w.now c.args.term.now c.args.out.now c.add_scaled.new.self c.neg-factor.result
    (omega (arith, above)) at
    (c.neg-factor.ensures.value ∙ ap (λ z. (p - z) % p) c.mul.ensures.value) h)
    c.add_scaled.ensures.sum

pub returns-then-term-row-clause-vector : goal.returns-then-term-row-clause-vector
returns-then-term-row-clause-vector c = c.requires.vector

pub returns-then-term-row-clause-sum : goal.returns-then-term-row-clause-sum
returns-then-term-row-clause-sum c = clear_other c.args.ring.now c.args.row c.args.inverse c.args.w.now c.args.term.now c.args.out.now c.if-term-row.true

pub mul-requires-clause-left : goal.mul-requires-clause-left
mul-requires-clause-left c = c.requires.inverse

pub mul-requires-clause-right : goal.mul-requires-clause-right
mul-requires-clause-right c = c.requires.residue

pub neg-factor-requires : goal.neg-factor-requires
neg-factor-requires c = c.mul.ensures.small

pub add_scaled-requires-clause-factor : goal.add_scaled-requires-clause-factor
add_scaled-requires-clause-factor c = c.neg-factor.ensures.small

pub add_scaled-requires-clause-variables : goal.add_scaled-requires-clause-variables
add_scaled-requires-clause-variables c = c.requires.monomial

pub add_scaled-requires-clause-left : goal.add_scaled-requires-clause-left
add_scaled-requires-clause-left c = c.requires.vector

pub add_scaled-requires-clause-right : goal.add_scaled-requires-clause-right
add_scaled-requires-clause-right c = c.requires.column

pub returns-clause-vector : goal.returns-clause-vector
returns-clause-vector c = c.add_scaled.ensures.vector

pub returns-clause-stop : goal.returns-clause-stop
returns-clause-stop c =
    let at : c.args.term.now.0.position ≡ c.args.row = omega arith in
    on_err c.add_scaled.result _ _ (λ e h. clear_stop c.args.row c.args.w.now c.args.term.now c.neg-factor.result e at h) c.add_scaled.ensures.stop
