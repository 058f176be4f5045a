use Rattle.std.proofs.Common.{List, length, ◌++◌, ◌≡◌}
use Rattle.std.specs.VecDeque.{deque_len}
use Rattle.pivot_table.specs.Law.{IsSeatOf, told}
use Rattle.row_matrix.specs.Rows.{RowShown}
use Rattle.dense_reduction.specs.Pivots.{ArePivots}
use Rattle.dense_reduction.specs.Rests.{rows_left}
use Rattle.dense_reduction.specs.Underway.{AreIdle}
use Rattle.row_reduce.specs.Tails.{AreTailsReduced}
use Rattle.row_reduce.proofs.tails.keep_each.Given as goal

abbrev pub invariant-loop-row : goal.invariant-loop-row
invariant-loop-row l =
    let p = l.shared.modulus.now.value in
    record {
      seat : IsSeatOf l.shared.claims.now.table.shared.table_id l.shared.claims.now.rows.leads.items l.seat;
      wide : length l.own.pivots.items ≡ l.columns;
      own : ArePivots p l.columns l.shared.inputs (rows_left l.own.left.items) l.own.pivots.items;
      idle : AreIdle l.columns l.work.numbers.items;
      reduced : (done : List RowShown) × (done ++ l.rest.items ≡ l.fn.rows.items)
          × AreTailsReduced p l.columns l.shared.inputs (told l.seat) done (rows_left l.own.left.items);
    }

abbrev pub decreases-loop-row : goal.decreases-loop-row
decreases-loop-row l = deque_len l.rest
