use Rattle.std.proofs.Common.{drop, length, take, ◌++◌, ◌+◌, ◌≡◌, ◌≤◌}
use Rattle.formal_sums.specs.FormalSums.{Each}
use Rattle.pair_updates.specs.Leads.{LeadsShown}
use Rattle.pair_updates.specs.Pairs.{IsRealPair}
use Rattle.pair_queue.proofs.skipping.put_back.Given as goal

-- the kept pairs from `last` on are put back
abbrev pub invariant-loop-last : goal.invariant-loop-last
invariant-loop-last l = record {
  len : length l.queue.items ≡ length l.fn.queue.items;
  low : l.count ≤ l.last;
  high : l.last ≤ l.kept;
  place : l.first + l.kept ≡ l.next + l.last;
  front : take l.last l.queue.items ≡ take l.last l.fn.queue.items;
  rest : drop l.first l.queue.items ≡ drop l.last (take l.kept l.fn.queue.items) ++ drop l.next l.fn.queue.items;
  real : (m : LeadsShown) → Each (IsRealPair m) l.fn.queue.items → Each (IsRealPair m) l.queue.items;
}

abbrev pub decreases-loop-last : goal.decreases-loop-last
decreases-loop-last l = l.last
