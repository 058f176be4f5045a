use Rattle.std.proofs.Common.{length, take, ◌++◌, ◌+◌, ◌-◌, ◌≡◌, ◌≤◌}
use Rattle.std.specs.Vec.{vec_capacity}
use Rattle.basis_steps.specs.Steps.{out_with}
use Rattle.pair_queue.specs.Outs.{outs_of}
use Rattle.pair_updates.specs.Pairs.{pairs_of}
use Rattle.pair_queue.proofs.giving.give.Given as goal

abbrev pub invariant-loop-k : goal.invariant-loop-k
invariant-loop-k l = record {
  out : outs_of l.out.items ≡ outs_of l.initial.out.items ++ out_with l.worker (take l.k (pairs_of l.pairs));
  given : l.given.items ≡ take l.k (pairs_of l.pairs);
  out_room : length l.out.items + (length l.pairs - l.k) ≤ vec_capacity l.out;
  given_room : length l.given.items + (length l.pairs - l.k) ≤ vec_capacity l.given;
}
