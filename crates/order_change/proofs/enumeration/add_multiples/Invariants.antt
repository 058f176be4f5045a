use Rattle.std.proofs.Common.{length}
use Rattle.order_change.specs.Lists.{IsMultiplying}
use Rattle.monomial_orders.specs.Kept.{monomials}
use Rattle.order_change.proofs.enumeration.add_multiples.Given as goal

abbrev pub invariant-loop-i : goal.invariant-loop-i
invariant-loop-i l = IsMultiplying (length l.weights) l.weights (monomials (length l.weights) l.leads) l.found.items l.at l.i
