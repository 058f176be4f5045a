use Rattle.std.proofs.Common.{length, take, ◌≡◌}
use Rattle.constant_rows.specs.Rows.{AddsConstants, AreRowSums}
use Rattle.constant_rows.proofs.sums.add_entries.Given as goal

abbrev pub invariant-loop-entry : goal.invariant-loop-entry
invariant-loop-entry l = record {
  count : length l.sums.items ≡ length l.fn.sums.items;
  adds : AddsConstants l.modulus.value l.factor (take l.entry-index l.entries) l.fn.sums.items l.sums.items;
  sums : AreRowSums l.sums.items l.touched.items;
}
