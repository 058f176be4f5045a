use Rattle.std.proofs.Common.{take, ◌≡◌}
use Rattle.monomials.specs.Exponents.{exponents_of, lcm, times}
use Rattle.formal_sums.specs.FormalSums.{Each}
use Rattle.bases.specs.Leads.{head_key}
use Rattle.term_lists.specs.Rings.{variables}
use Rattle.term_lists.specs.Vectors.{sums_of}
use Rattle.ideal_ops.proofs.coprime_leads.has_coprime_lead.Given as goal

abbrev pub invariant-loop-v : goal.invariant-loop-v
invariant-loop-v l =
    let n = variables l.ring in
    let m = exponents_of n l.lead.key.now.monomial.exponents in
    Each (λ g. times (head_key g).1 m ≡ lcm (head_key g).1 m) (sums_of n (take l.v-index l.list))
