use Rattle.std.proofs.Common.{take, ◌≡◌}
use Rattle.monomial_orders.proofs.Totals.{weighted_sum}
use Rattle.monomial_orders.proofs.compare.compare_totals.Given as goal

abbrev pub invariant-loop-k : goal.invariant-loop-k
invariant-loop-k l = record {
  left : l.left ≡ weighted_sum (take l.k l.weights) (take l.k l.a);
  right : l.right ≡ weighted_sum (take l.k l.weights) (take l.k l.b);
}
