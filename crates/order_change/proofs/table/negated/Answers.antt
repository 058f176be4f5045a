use Rattle.std.proofs.Common.{arith, length, sym, ◌<◌, ◌≡◌}
use Rattle.order_change.proofs.Items.{length_monomials}
use Rattle.order_change.proofs.Tails.{negating_all, negating_first, negating_more}
use Rattle.monomial_orders.specs.Kept.{monomials}
use Rattle.order_change.proofs.table.negated.Goals as goal

pub loop-term-init : goal.loop-term-init
loop-term-init c =
    let ring = c.args.ring.now in
    let n = length ring.weights in
    let p = ring.modulus.value in
    let pos : 0 < p = let above = c.domain.ensures.above_one in omega (arith, above) in
    let long : length c.in_ok-form.form ≡ length c.args.standard.now = omega (arith, c.in_ok-form.ensures.long) in
    negating_first n p (length c.args.standard.now) (monomials n c.args.standard.now) c.args.terms.now c.in_ok-form.form pos long c.in_ok-form.ensures.zeros

pub loop-term-preserved : goal.loop-term-preserved
loop-term-preserved c =
    let ring = c.args.ring.now in
    let n = length ring.weights in
    let p = ring.modulus.value in
    let standard = c.args.standard.now in
    let kl : c.place-k.result < length (monomials n standard) = omega (arith, c.place-k.ensures.within, length_monomials n standard) in
    negating_more n p (length standard) ring.weights (monomials n standard) c.args.terms.now c.loop-term.term-index c.loop-term.form c.add_at.new.self c.term-item.result c.place-k.result c.neg.result
    c.requires.terms c.loop-term-test.true (sym c.term-item.is) kl c.place-k.ensures.at c.neg.ensures.value
    c.add_at.ensures.long c.add_at.ensures.residues c.add_at.ensures.at c.add_at.ensures.others c.loop-term.invariant

pub returns-clause-sum : goal.returns-clause-sum
returns-clause-sum c =
    let ring = c.args.ring.now in
    let n = length ring.weights in
    (negating_all n ring.modulus.value (length c.args.standard.now) (monomials n c.args.standard.now) c.args.terms.now c.loop-term.term-index c.loop-term.form c.loop-term.invariant c.loop-term.auto.term-index-end c.loop-term-test.false).0

pub returns-clause-support : goal.returns-clause-support
returns-clause-support c =
    let ring = c.args.ring.now in
    let n = length ring.weights in
    (negating_all n ring.modulus.value (length c.args.standard.now) (monomials n c.args.standard.now) c.args.terms.now c.loop-term.term-index c.loop-term.form c.loop-term.invariant c.loop-term.auto.term-index-end c.loop-term-test.false).1
