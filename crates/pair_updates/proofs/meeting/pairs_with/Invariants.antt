use Rattle.std.proofs.Common.{None, get_or, length, ℕ, ◌<◌, ◌≡◌, ◌≤◌}
use Rattle.std.specs.Vec.{vec_capacity}
use Rattle.pair_updates.specs.Dropping.{IsNewPair}
use Rattle.pair_updates.proofs.meeting.pairs_with.Given as goal

abbrev pub invariant-loop-i : goal.invariant-loop-i
invariant-loop-i l = record {
  len : length l.pairs.items ≡ l.i;
  each : (k : ℕ) → k < l.i → IsNewPair l.leads l.h k (get_or l.pairs.items k None);
  room : l.h ≤ vec_capacity l.pairs;
  few : l.i ≤ l.h;
}
