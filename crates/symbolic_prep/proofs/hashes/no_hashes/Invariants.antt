use Rattle.std.proofs.Common.{[], length, ◌≡◌, ◌≤◌}
use Rattle.std.specs.Vec.{vec_capacity, vec_len}
use Rattle.formal_sums.specs.FormalSums.{Each}
use Rattle.row_matrix.specs.Told.{HashesShown}
use Rattle.symbolic_prep.proofs.hashes.no_hashes.Given as goal

abbrev pub invariant-loop : goal.invariant-loop
invariant-loop g l = record {
  count : vec_len l.hashes ≡ l.counter;
  room : length (g.L.Vectors.listed l.members) ≤ vec_capacity l.hashes;
  none : Each (λ (h : HashesShown). h.hashes ≡ []) l.hashes.items;
}
