use Rattle.std.proofs.Common.{length, ◌≡◌, ◌≤◌}
use Rattle.std.specs.Vec.{vec_capacity}
use Rattle.pair_queue.proofs.queue.blank_pairs.Given as goal

abbrev pub invariant-loop : goal.invariant-loop
invariant-loop l = record { len : length l.pairs.items ≡ l.counter; room : l.count ≤ vec_capacity l.pairs; low : l.counter ≤ l.count }
