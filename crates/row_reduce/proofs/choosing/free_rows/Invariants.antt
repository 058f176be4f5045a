use Rattle.std.proofs.Common.{length, take, ◌++◌, ◌≡◌}
use Rattle.std.specs.List.Sorted.{IsPermutation}
use Rattle.row_reduce.proofs.choosing.free_rows.Given as goal

abbrev pub invariant-loop-i : goal.invariant-loop-i
invariant-loop-i l = record {
  split : IsPermutation (take l.i l.pending) (l.parts.first.items ++ l.parts.others.items);
  wide : length l.taken.items ≡ length l.held;
}
