use Rattle.std.proofs.Common.{length, take, ◌≡◌}
use Rattle.pivot_table.specs.Law.{IsSeatOf, told}
use Rattle.dense_reduction.specs.Pivots.{ArePivots}
use Rattle.dense_reduction.specs.Rests.{rows_left}
use Rattle.dense_reduction.specs.Underway.{AreIdle}
use Rattle.dense_reduction.specs.Words.{IsToldAfter}
use Rattle.row_reduce.specs.Replaced.{AreReplaced}
use Rattle.row_reduce.proofs.helping.replace_each.Given as goal

abbrev pub invariant-loop-one : goal.invariant-loop-one
invariant-loop-one l =
    let p = l.shared.modulus.now.value in
    let columns = length l.fn.own.pivots.items in
    record {
      seat : IsSeatOf l.shared.claims.now.table.shared.table_id l.shared.claims.now.rows.leads.items l.seat;
      follows : IsToldAfter (told l.fn.seat) (told l.seat);
      wide : length l.own.pivots.items ≡ columns;
      own : ArePivots p columns l.shared.inputs (rows_left l.own.left.items) l.own.pivots.items;
      idle : AreIdle columns l.work.numbers.items;
      replaced : AreReplaced p columns l.shared.inputs l.shared.rows.now (told l.seat) (take l.one-index l.lost) l.fn.own.left.items l.own.left.items;
    }
