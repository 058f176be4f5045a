use Rattle.std.proofs.Common.{ap₂, sym, ◌+◌, ◌∙◌}
use Rattle.term_lists.specs.Rings.{variables}
use Rattle.induced_leads.proofs.Summing.{summed_degree}
use Rattle.induced_leads.proofs.comparing.product_degree.Goals as goal

pub returns : goal.returns
returns c =
    let ring = c.args.ring.now in
    ap₂ ◌+◌ (c.degree.ensures.value ∙ c.requires.monomial.degree) c.requires.head.degree
    ∙ sym (summed_degree (variables ring) ring.weights c.args.a.now.exponents c.args.e.now.exponents.items c.requires.monomial.variables)
