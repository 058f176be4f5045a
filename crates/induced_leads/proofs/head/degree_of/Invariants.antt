use Rattle.std.proofs.Common.{take, ◌*◌, ◌≡◌, ◌≤◌}
use Rattle.monomial_orders.proofs.Totals.{weighted_sum}
use Rattle.induced_leads.proofs.head.degree_of.Given as goal

abbrev pub invariant-loop-k : goal.invariant-loop-k
invariant-loop-k l = record {
  total : l.degree ≡ weighted_sum (take l.k l.weights) (take l.k l.e);
  small : l.degree ≤ 71776119061217280 * l.k;
}
