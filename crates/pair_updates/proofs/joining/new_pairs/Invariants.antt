use Rattle.std.proofs.Common.{cond, ltb, ◌&&◌, ◌≡◌}
use Rattle.formal_sums.specs.FormalSums.{Each}
use Rattle.basis_steps.specs.Pairs.{Pair, count}
use Rattle.basis_steps.specs.Queues.{is_new_pair}
use Rattle.pair_updates.specs.Pairs.{HasLcm, pairs_of}
use Rattle.pair_updates.specs.Leads.{lead_sums}
use Rattle.pair_updates.proofs.joining.new_pairs.Given as goal

abbrev pub invariant-loop-j : goal.invariant-loop-j
invariant-loop-j l =
    let n = l.leads.variables in
    record {
      lcms : Each (HasLcm l.leads) l.pairs.items;
      same : (x : Pair) → count x (pairs_of l.pairs.items) ≡ cond (ltb x.1 l.j && is_new_pair l.first (lead_sums n l.leads.keys) x) 1 0;
    }
