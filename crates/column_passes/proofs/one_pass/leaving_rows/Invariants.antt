use Rattle.std.proofs.Common.{length, take, ◌≡◌, ◌≤◌}
use Rattle.column_passes.specs.Passing.{LeaveNumbered}
use Rattle.column_passes.proofs.one_pass.leaving_rows.Given as goal

abbrev pub invariant-loop-number : goal.invariant-loop-number
invariant-loop-number l = record {
  size : length l.leaving.places.items ≡ l.number-index;
  bound : l.leaving.count ≤ length l.leaving.places.items;
  leave : LeaveNumbered (take l.number-index l.numbers) l.leaving;
}
