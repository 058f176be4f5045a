use Rattle.std.proofs.Common.{[], get_or, length, ℕ, ◌<◌, ◌≡◌, ◌≤◌}
use Rattle.std.specs.Vec.{vec_capacity, vec_len}
use Rattle.row_matrix.specs.Told.{AreHashesOf, HashesShown}
use Rattle.numbered_sums.proofs.hashes.column_hashes.Given as goal

abbrev pub invariant-loop-column : goal.invariant-loop-column
invariant-loop-column l = record {
  count : vec_len l.hashes ≡ l.column-index;
  room : length l.columns ≤ vec_capacity l.hashes;
  each : (j : ℕ) (h : HashesShown) → j < l.column-index → h ≡ get_or l.hashes.items j h → AreHashesOf h (get_or l.columns j []);
}
