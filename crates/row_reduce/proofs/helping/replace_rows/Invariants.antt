use Rattle.std.proofs.Common.{length, take, ◌-◌, ◌≡◌, ◌≤◌}
use Rattle.pivot_table.specs.Law.{IsSeatOf, told}
use Rattle.dense_reduction.specs.LostRows.{numbers}
use Rattle.dense_reduction.specs.Pivots.{ArePivots}
use Rattle.dense_reduction.specs.Rests.{rows_left}
use Rattle.dense_reduction.specs.Words.{IsToldAfter}
use Rattle.row_reduce.specs.Passes.{AreHelped}
use Rattle.row_reduce.specs.Room.{HasIdleRoom}
use Rattle.row_reduce.proofs.helping.replace_rows.Given as goal

abbrev pub invariant-loop-from : goal.invariant-loop-from
invariant-loop-from l = record {
  within : l.from ≤ length l.lost;
  seat : IsSeatOf l.shared.claims.now.table.shared.table_id l.shared.claims.now.rows.leads.items l.seat;
  follows : IsToldAfter (told l.fn.seat) (told l.seat);
  wide : length l.own.pivots.items ≡ l.columns;
  own : ArePivots l.shared.modulus.now.value l.columns l.shared.inputs (rows_left l.own.left.items) l.own.pivots.items;
  idle : HasIdleRoom l.columns l.room;
  helped : AreHelped l.shared.modulus.now.value l.columns l.shared.inputs l.shared.rows.now (numbers (take l.from l.lost)) (told l.seat) l.own.left.items;
}

abbrev pub decreases-loop-from : goal.decreases-loop-from
decreases-loop-from l = length l.lost - l.from
