use Rattle.std.proofs.Common.{take, ◌*◌, ◌≡◌, ◌≤◌}
use Rattle.monomial_orders.proofs.Totals.{weighted_sum}
use Rattle.induced_leads.specs.Heads.{summed}
use Rattle.induced_leads.proofs.comparing.total.Given as goal

abbrev pub invariant-loop-k : goal.invariant-loop-k
invariant-loop-k l = record {
  total : l.degree ≡ weighted_sum (take l.k l.weights) (take l.k (summed l.a l.e));
  small : l.degree ≤ 143552238122434560 * l.k;
}
