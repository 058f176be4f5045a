use Rattle.std.proofs.Common.{List, length, ◌≡◌, ◌≤◌}
use Rattle.std.specs.Vec.{vec_capacity}
use Rattle.term_lists.specs.declared.key.Key.{Key}
use Rattle.row_matrix.specs.Naming.{IsPartOfProduct}
use Rattle.row_matrix.proofs.key_table.KeyTable.push_known.Given as goal

abbrev pub invariant-loop-i : goal.invariant-loop-i
invariant-loop-i l = record {
  part : (start : List Key) → IsPartOfProduct start l.self l.t l.v l.fn.entries.items → IsPartOfProduct start l.self l.t l.v l.entries.items;
  within : length l.entries.items ≤ length l.v;
  longer : length l.fn.entries.items ≤ length l.entries.items;
  len : length l.entries.items ≡ l.i;
  room : length l.v ≤ vec_capacity l.entries;
}
