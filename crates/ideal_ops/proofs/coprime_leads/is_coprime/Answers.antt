use Rattle.monomials.specs.Exponents.{exponents_of}
use Rattle.term_lists.specs.Rings.{variables}
use Rattle.ideal_ops.proofs.ColonItself.{apart_of_lead, apart_of_zero, lead_variables}
use Rattle.ideal_ops.proofs.coprime_leads.is_coprime.Goals as goal

pub returns-in-Some : goal.returns-in-Some
returns-in-Some c h =
    let ring = c.args._ring.now in
    let v = c.args.v.now in
    let lead = c.in-Some.lead.key.now in
    let residue = c.in-Some.lead.residue in
    let is = c.in-Some.ensures.1 in
    apart_of_lead (variables ring) v c.in-Some.ensures.0 lead residue c.args.key.now.monomial.exponents is
    (lead_variables ring v c.in-Some.ensures.0 lead residue is c.requires.vector) (c.coprime.ensures.value.0 h)

pub returns-in-None : goal.returns-in-None
returns-in-None c h =
    let n = variables c.args._ring.now in
    apart_of_zero n c.args.v.now (exponents_of n c.args.key.now.monomial.exponents) c.in-None.ensures
