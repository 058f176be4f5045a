use Rattle.std.proofs.Common.{false, length, subst, sym, true, ◌∙◌, ◌≡◌}
use Rattle.formal_sums.specs.FormalSums.{Each}
use Rattle.orders.specs.KeyOrders.{KeyDivides}
use Rattle.bases.specs.Leads.{head_key}
use Rattle.term_lists.specs.Vectors.{HasVariables, key_of, sum_of}
use Rattle.vector_division.proofs.divisors.lead_divides.Goals as goal

pub key_divides-requires : goal.key_divides-requires
key_divides-requires c =
    let n = length c.args.key.now.monomial.exponents in
    (subst (Each (HasVariables n)) c.in-Some.ensures.1 c.requires).0

pub returns-in-Some : goal.returns-in-Some
returns-in-Some c =
    let key = c.args.key.now in
    let n = length key.monomial.exponents in
    let lead = c.in-Some.lead.key.now in
    let e : length lead.monomial.exponents ≡ n = (subst (Each (HasVariables n)) c.in-Some.ensures.1 c.requires).0 in
    λ weights no some d.
    let divides = subst (λ v. KeyDivides (head_key (sum_of n v)) (key_of n key)) c.in-Some.ensures.1 d in
    let yes = c.key_divides.ensures.1 (subst (λ m. KeyDivides (key_of m lead) (key_of m key)) (sym e) divides) in
    let t : true ≡ false = sym yes ∙ no in
    cc
