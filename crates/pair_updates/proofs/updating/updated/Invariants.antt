use Rattle.std.proofs.Common.{[], length, ◌≤◌}
use Rattle.pair_updates.specs.Dropping.{drops_of}
use Rattle.pair_updates.specs.Pairs.{pairs_of}
use Rattle.pair_updates.specs.Updating.{Updating}
use Rattle.pair_updates.proofs.updating.updated.Given as goal

abbrev pub invariant-loop-h : goal.invariant-loop-h
invariant-loop-h l = record {
  updating : Updating l.leads l.first l.h (pairs_of l.queue) [] l.kept.items l.queued.items (drops_of l.dropped.items);
  low : l.first ≤ l.h;
  high : l.h ≤ length l.leads.keys;
}
