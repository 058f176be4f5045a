use Rattle.std.proofs.Common.{length}
use Rattle.order_change.specs.Lists.{IsListing}
use Rattle.monomial_orders.specs.Kept.{monomials}
use Rattle.order_change.proofs.enumeration.standard_monomials.Given as goal

abbrev pub invariant-loop-at : goal.invariant-loop-at
invariant-loop-at l = IsListing (length l.weights) l.weights (monomials (length l.weights) l.leads) l.found.items l.at
