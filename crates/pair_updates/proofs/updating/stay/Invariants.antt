use Rattle.std.proofs.Common.{drop, length, take, ◌≡◌, ◌≤◌}
use Rattle.pair_updates.specs.Dropping.{drops_of}
use Rattle.pair_updates.specs.Pairs.{pairs_of}
use Rattle.pair_updates.specs.Updating.{Staying}
use Rattle.pair_updates.proofs.updating.stay.Given as goal

-- the pairs before `kept` stay, and those from `next` on are still to be looked at
abbrev pub invariant-loop-next : goal.invariant-loop-next
invariant-loop-next l = record {
  staying : Staying l.leads l.h (pairs_of l.fn.pairs.items) (drops_of l.fn.dropped.items) (take l.kept l.pairs.items) (drop l.next l.pairs.items)
      (drops_of l.dropped.items);
  kept : l.kept ≤ l.next;
  len : length l.pairs.items ≡ length l.fn.pairs.items;
}
