use Rattle.std.proofs.Common.{[], length, ◌≡◌, ◌≤◌}
use Rattle.std.specs.Vec.{vec_capacity, vec_len}
use Rattle.formal_sums.specs.FormalSums.{Each}
use Rattle.row_matrix.specs.Told.{HashesShown}
use Rattle.remainders.proofs.hashes.no_hashes.Given as goal

abbrev pub invariant-loop : goal.invariant-loop
invariant-loop l = record {
  count : vec_len l.hashes ≡ l.counter;
  room : length l.list ≤ vec_capacity l.hashes;
  none : Each (λ (h : HashesShown). h.hashes ≡ []) l.hashes.items;
}
