use Rattle.std.proofs.Common.{take, ◌≡◌}
use Rattle.formal_sums.specs.FormalSums.{Each}
use Rattle.basis_steps.specs.Queues.{number_of_degree}
use Rattle.pair_updates.specs.Pairs.{HasLcm, pairs_of}
use Rattle.pair_updates.specs.Leads.{LeadsShown, setting_of_leads, sums_shown}
use Rattle.pair_queue.proofs.sharing.count_least_degree.Given as goal

abbrev pub invariant-loop-k : goal.invariant-loop-k
invariant-loop-k l = (m : LeadsShown) → Each (HasLcm m) l.queue
    → number_of_degree (setting_of_leads m.variables m) (sums_shown m) l.least (take l.k (pairs_of l.queue)) ≡ l.k
