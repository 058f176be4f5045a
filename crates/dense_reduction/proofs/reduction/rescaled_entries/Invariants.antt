use Rattle.std.proofs.Common.{length, take, ◌≡◌, ◌≤◌}
use Rattle.std.specs.Vec.{vec_capacity, vec_len}
use Rattle.dense_reduction.specs.Underway.{entries_rescaled}
use Rattle.dense_reduction.proofs.reduction.rescaled_entries.Given as goal

abbrev pub invariant-loop-entry : goal.invariant-loop-entry
invariant-loop-entry l = record {
  items : l.out.items ≡ entries_rescaled l.modulus.value l.c (take l.entry-index l.entries);
  len : vec_len l.out ≡ l.entry-index;
  room : length l.entries ≤ vec_capacity l.out;
}
