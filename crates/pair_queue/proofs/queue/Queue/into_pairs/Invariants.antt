use Rattle.std.proofs.Common.{drop, ◌≡◌, ◌≤◌}
use Rattle.pair_queue.proofs.queue.Queue.into_pairs.Given as goal

abbrev pub invariant-loop : goal.invariant-loop
invariant-loop l = record { rest : l.pairs.items ≡ drop l.counter l.initial.pairs.items; low : l.counter ≤ l.blanks }
