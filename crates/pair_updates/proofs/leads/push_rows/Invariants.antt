use Rattle.std.proofs.Common.{length, take, ◌≡◌, ◌≤◌}
use Rattle.std.specs.Vec.{vec_capacity, vec_len}
use Rattle.pair_updates.specs.Rows.{key_rows}
use Rattle.pair_updates.proofs.leads.push_rows.Given as goal

abbrev pub invariant-loop-k : goal.invariant-loop-k
invariant-loop-k l = record {
  rows : l.rows.items ≡ key_rows (take l.k l.keys);
  len : vec_len l.rows ≡ l.k;
  few : l.k ≤ length l.keys;
  room : length l.keys ≤ vec_capacity l.rows;
}
