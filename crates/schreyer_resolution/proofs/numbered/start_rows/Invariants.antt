use Rattle.std.proofs.Common.{length, ◌≡◌, ◌≤◌}
use Rattle.std.specs.Vec.{vec_capacity, vec_len}
use Rattle.schreyer_resolution.specs.Sharing.{ArePartProducts, AreStarts}
use Rattle.schreyer_resolution.proofs.numbered.start_rows.Given as goal

abbrev pub invariant-loop-key : goal.invariant-loop-key
invariant-loop-key l = record {
  count : vec_len l.rows ≡ l.key-index;
  room : length l.keys ≤ vec_capacity l.rows;
  part : ArePartProducts l.ring l.columns l.products;
  starts : AreStarts l.ring l.columns l.products.numbers l.products.entries.items l.keys l.key-index l.rows.items;
}
