use Rattle.std.proofs.Common.{length, subst, ℕ}
use Rattle.std.specs.Prelude.{IsTrue, ◌↔◌}
use Rattle.bases.specs.Leads.{leads}
use Rattle.term_lists.specs.Vectors.{key_of}
use Rattle.pair_criteria.specs.Sparing as leads_spared
use Rattle.pair_updates.proofs.CriterionTests.{product_is}
use Rattle.pair_updates.specs.Leads.{sums_shown}
use Rattle.pair_updates.proofs.criteria.product_spares.Goals as goal

pub returns : goal.returns
returns c =
    let m = c.args.leads.now in
    let G = sums_shown m in
    let left = c.at.result.now in
    let right = c.at-2.result.now in
    let n = length left.monomial.exponents in
    product_is n left right (leads G c.args.i) (leads G c.args.j) m.rank c.product_applies.result
    c.at.ensures.variables c.at.ensures.lead c.at-2.ensures.lead c.requires.position
    (subst (λ (r : ℕ). IsTrue c.product_applies.result ↔ leads_spared.ProductCriterionApplies r (key_of n left) (key_of n right)) c.rank.ensures
    c.product_applies.ensures.exact)
