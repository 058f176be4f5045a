use Rattle.std.proofs.Common.{length, take, ◌+◌, ◌-◌, ◌≡◌, ◌≤◌}
use Rattle.std.specs.Vec.{vec_capacity}
use Rattle.pair_updates.proofs.updating.copies.Given as goal

abbrev pub invariant-loop-k : goal.invariant-loop-k
invariant-loop-k l = record {
  items : l.copied.items ≡ take l.k l.pairs;
  room : length l.copied.items + (length l.pairs - l.k) ≤ vec_capacity l.copied;
}
