use Rattle.std.proofs.Common.{◌*◌, ◌+◌, ◌≡◌, ◌≤◌}
use Rattle.monomial_orders.proofs.Totals.{weighted_sum}
use Rattle.session_top.proofs.Degrees.{sum_from}
use Rattle.session_top.proofs.stops.degree_of.Given as goal

abbrev pub invariant-loop-k : goal.invariant-loop-k
invariant-loop-k l = record {
  total : l.degree + sum_from l.weights l.exponents l.k ≡ weighted_sum l.weights l.exponents;
  small : l.degree ≤ 16711425 * l.k;
}
