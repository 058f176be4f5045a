use Rattle.std.proofs.Common.{length, subst}
use Rattle.monomial_orders.specs.Monomials.{IsQuotient}
use Rattle.term_lists.specs.Rings.{variables}
use Rattle.induced_leads.proofs.PairSteps.{pair_divides, pair_quotient}
use Rattle.induced_leads.proofs.pair_syzygies.pair_monomial.Goals as goal

pub unreachable-requires : goal.unreachable-requires
unreachable-requires c =
    pair_divides c.args.a.now c.args.b.now c.in_ok-lcm.lcm c.in_ok-lcm.ensures.ok
    (subst (IsQuotient (length c.in_ok-lcm.lcm.exponents) c.in_ok-lcm.lcm c.args.a.now) c.in-None.is c.in_ok-monomial.ensures.ok)

pub returns-clause-quotient : goal.returns-clause-quotient
returns-clause-quotient c =
    pair_quotient (variables c.args.ring.now) c.args.ring.now.weights c.args.a.now c.args.b.now c.in_ok-lcm.lcm c.in-Some.monomial c.requires.left c.in_ok-lcm.ensures.ok
    (subst (IsQuotient (length c.in_ok-lcm.lcm.exponents) c.in_ok-lcm.lcm c.args.a.now) c.in-Some.is c.in_ok-monomial.ensures.ok)
