use Rattle.std.proofs.Common.{◌≤◌}
use Rattle.formal_sums.specs.FormalSums.{Each}
use Rattle.pair_updates.specs.Dropping.{AreNewPairs, drops_of}
use Rattle.pair_updates.specs.FirstYields.{AreFirstYields}
use Rattle.pair_updates.specs.Pairs.{IsRealPair, pairs_of}
use Rattle.pair_updates.specs.Updating.{Joining}
use Rattle.pair_updates.proofs.updating.join.Given as goal

abbrev pub invariant-loop-i : goal.invariant-loop-i
invariant-loop-i l = record {
  joining : Joining l.leads l.h l.i (pairs_of l.fn.queued.items) (drops_of l.fn.dropped.items) l.queued.items (drops_of l.dropped.items);
  real : Each (IsRealPair l.leads) l.queued.items;
  news : AreNewPairs l.leads l.h l.news.items;
  yields : AreFirstYields l.leads l.h l.yields.firsts.items l.yields.left.items;
  few : l.i ≤ l.h;
}
