use Rattle.std.proofs.Common.{arith, length, subst, ◌≡◌}
use Rattle.monomial_orders.specs.Kept.{IsWeighed}
use Rattle.term_lists.specs.Rings.{variables}
use Rattle.ring_maps.proofs.first_variables.monomial_of.Goals as goal

pub from_exponents-requires : goal.from_exponents-requires
from_exponents-requires c =
    let ring = c.args.ring.now in
    let weighted : length ring.weights ≡ variables ring = ring.weighted in
    record { variables = omega (arith, weighted, c.requires) }

pub returns-in-Ok-clause-over : goal.returns-in-Ok-clause-over
returns-in-Ok-clause-over c = subst (λ k. IsWeighed k c.args.ring.now.weights c.in-Ok.m) c.requires c.in-Ok.ensures.weighed
