use Rattle.std.proofs.Common.{length}
use Rattle.order_change.proofs.Tails.{IsNegating}
use Rattle.monomial_orders.specs.Kept.{monomials}
use Rattle.order_change.proofs.table.negated.Given as goal

abbrev pub invariant-loop-term : goal.invariant-loop-term
invariant-loop-term l =
    let n = length l.ring.weights in
    IsNegating n l.ring.modulus.value (length l.standard) (monomials n l.standard) l.terms l.term-index l.form
