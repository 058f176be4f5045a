use Rattle.std.proofs.Common.{arith, subst, ◌∙◌}
use Rattle.std.proofs.lemmas.List.{get_or_default}
use Rattle.monomial_orders.specs.Kept.{IsWeighed}
use Rattle.pair_criteria.specs.Pairs.{key_variables}
use Rattle.pair_criteria.proofs.PairsOfLeads.{pair_is}
use Rattle.pair_criteria.proofs.pairing.pair_of.Goals as goal

pub returns-clause-pair : goal.returns-clause-pair
returns-clause-pair c =
    let leads = c.args.leads.now in
    let a = c.index-leads-i.result in
    let b = c.index-leads-j.result in
    pair_is leads c.args.i c.args.j _ a b
    (c.index-leads-i.is ∙ get_or_default leads c.args.i a _ (omega arith))
    (c.index-leads-j.is ∙ get_or_default leads c.args.j b _ (omega arith))
    (omega arith)
    c.in_ok-monomial.ensures.ok

pub returns-clause-weighed : goal.returns-clause-weighed
returns-clause-weighed c =
    let leads = c.args.leads.now in
    let a = c.index-leads-i.result in
    subst (λ k. IsWeighed (key_variables k) c.args.weights.now c.in_ok-monomial.monomial)
    (c.index-leads-i.is ∙ get_or_default leads c.args.i a _ (omega arith))
    c.in_ok-monomial.ensures.weighed
