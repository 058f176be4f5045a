use Rattle.std.proofs.Common.{cond, ltb, ◌&&◌, ◌+◌, ◌≡◌}
use Rattle.std.specs.Prelude.{nat_eq}
use Rattle.formal_sums.specs.FormalSums.{Each}
use Rattle.basis_steps.specs.Pairs.{Pair, count}
use Rattle.pair_updates.specs.Leads.{lead_sums}
use Rattle.pair_updates.specs.Pairs.{HasLcm, pairs_of}
use Rattle.pair_updates.specs.Queueing.{are_together}
use Rattle.pair_updates.proofs.joining.push_pairs.Given as goal

abbrev pub invariant-loop-i : goal.invariant-loop-i
invariant-loop-i l = record {
  lcms : Each (HasLcm l.leads) l.pairs.items;
  same : (x : Pair) → count x (pairs_of l.pairs.items) ≡ count x (pairs_of l.fn.pairs.items) + cond
      (nat_eq x.1 l.j && (ltb x.0 l.i && are_together (lead_sums l.leads.variables l.leads.keys) x.0 l.j)) 1 0;
}
