use Rattle.std.proofs.Common.{false, get_or, length, refl, subst, sym, true, ◌≡◌}
use Rattle.monomials.specs.Exponents.{Divides, exponents_of, unit}
use Rattle.order_change.proofs.Items.{divides_by, is_free, item_at, not_standard, one_more}
use Rattle.monomial_orders.specs.Kept.{monomials}
use Rattle.order_change.proofs.leads.is_standard.Goals as goal

pub returns-then-divides : goal.returns-then-divides
returns-then-divides c =
    let n = length c.args.weights.now in
    let g = c.lead-item.result in
    let i = c.loop-lead.lead-index in
    let w = c.requires.leads i g c.loop-lead-test.true (sym c.lead-item.is) in
    not_standard n c.args.leads.now i g c.args.m.now.exponents c.loop-lead-test.true c.lead-item.is
    ((divides_by n true g.exponents c.args.m.now.exponents w.variables c.if-divides.ensures.value).0 refl)

pub loop-lead-preserved : goal.loop-lead-preserved
loop-lead-preserved c =
    let n = length c.args.weights.now in
    let g = c.lead-item.result in
    let i = c.loop-lead.lead-index in
    let w = c.requires.leads i g c.loop-lead-test.true (sym c.lead-item.is) in
    let e = exponents_of n c.args.m.now.exponents in
    one_more (λ k. Divides (get_or (monomials n c.args.leads.now) k (unit n)) e → ⊥) i c.loop-lead.invariant
    (λ d. let t : false ≡ true = (divides_by n false g.exponents c.args.m.now.exponents w.variables c.if-divides.ensures.value).1
    (subst (λ z. Divides z e) (item_at n c.args.leads.now i g c.loop-lead-test.true c.lead-item.is) d) in cc)

pub returns : goal.returns
returns c =
    let n = length c.args.weights.now in
    is_free n c.args.leads.now c.loop-lead.lead-index (exponents_of n c.args.m.now.exponents) c.loop-lead-test.false c.loop-lead.invariant
