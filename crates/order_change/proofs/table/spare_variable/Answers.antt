use Rattle.std.proofs.Common.{[], arith, get_or, length, subst, IfSome, IfNone, ◌∷◌, ◌∙◌, ◌≡◌}
use Rattle.monomials.specs.Exponents.{Divides, exponents_of, unit}
use Rattle.order_change.proofs.Borders.{spare_in}
use Rattle.order_change.proofs.Items.{item_at, length_monomials, one_more}
use Rattle.order_change.specs.Tables.{IsSpare}
use Rattle.monomial_orders.specs.Kept.{monomials}
use Rattle.order_change.proofs.table.spare_variable.Goals as goal

pub returns-in-Some-clause-some : goal.returns-in-Some-clause-some
returns-in-Some-clause-some c =
    let n = length c.args.weights.now in
    let k = c.loop-lead.lead-index in
    let lead = c.lead-item.result in
    let spare = subst (λ z. IfSome z (IsSpare n (exponents_of n lead.exponents ∷ []) (exponents_of n c.args.m.now.exponents))) c.in-Some.is c.in_ok-j.ensures.some in
    spare_in n (monomials n c.args.leads.now) k (exponents_of n lead.exponents) (exponents_of n c.args.m.now.exponents) c.in-Some.j (omega (arith, c.loop-lead-test.true, length_monomials n c.args.leads.now))
    (item_at n c.args.leads.now k lead c.loop-lead-test.true c.lead-item.is) spare

pub loop-lead-preserved : goal.loop-lead-preserved
loop-lead-preserved c =
    let n = length c.args.weights.now in
    let k = c.loop-lead.lead-index in
    let lead = c.lead-item.result in
    let m = exponents_of n c.args.m.now.exponents in
    let none = subst (λ z. IfNone z (Divides (exponents_of n lead.exponents) m → exponents_of n lead.exponents ≡ m)) c.in-None.is c.in_ok-j.ensures.none in
    let at = item_at n c.args.leads.now k lead c.loop-lead-test.true c.lead-item.is in
    one_more (λ i. Divides (get_or (monomials n c.args.leads.now) i (unit n)) m → get_or (monomials n c.args.leads.now) i (unit n) ≡ m) k c.loop-lead.invariant
    (λ d. at ∙ none (subst (λ z. Divides z m) at d))

pub spare_of-requires-clause-monomial : goal.spare_of-requires-clause-monomial
spare_of-requires-clause-monomial c = c.requires.monomial
