use Rattle.std.proofs.Common.{arith, false, get_or, length, sym, true, ◌<◌, ◌∙◌, ◌≡◌}
use Rattle.monomials.specs.Exponents.{exponents_of, unit}
use Rattle.order_change.proofs.Items.{equal_by, item_at, one_more}
use Rattle.monomial_orders.specs.Kept.{monomials}
use Rattle.order_change.proofs.leads.position.Goals as goal

pub loop-i-preserved : goal.loop-i-preserved
loop-i-preserved c =
    let n = length c.args.weights.now in
    let ws = c.args.weights.now in
    let g = c.index-list-i.result in
    let i = c.loop-i.i in
    let lt : i < length c.args.list.now = omega arith in
    let w = c.requires.list i g lt (sym c.index-list-i.is) in
    let e = exponents_of n c.args.m.now.exponents in
    one_more (λ k. get_or (monomials n c.args.list.now) k (unit n) ≡ e → ⊥) i c.loop-i.invariant
    (λ d. let t : false ≡ true = (equal_by n ws false g c.args.m.now w c.requires.monomial c.if-equal.ensures.exponents).1
    (sym (item_at n c.args.list.now i g lt c.index-list-i.is) ∙ d) in cc)
