use Rattle.std.proofs.Common.{List, drop, length, take, ◌++◌, ◌≡◌}
use Rattle.pivot_table.specs.Law.{IsSeatOf, told}
use Rattle.dense_reduction.specs.Pivots.{ArePivots}
use Rattle.dense_reduction.specs.Rests.{rows_left}
use Rattle.dense_reduction.specs.Together.{AreRests}
use Rattle.dense_reduction.specs.Underway.{AreIdle}
use Rattle.dense_reduction.specs.Words.{IsToldAfter}
use Rattle.dense_reduction.specs.declared.lefts.Left.{Left}
use Rattle.row_reduce.specs.Replaced.{AreReplaced}
use Rattle.row_reduce.proofs.helping.keep_rests.Given as goal

abbrev pub invariant-loop-one : goal.invariant-loop-one
invariant-loop-one l =
    let p = l.shared.modulus.now.value in
    let columns = length l.fn.own.pivots.items in
    let start = l.fn.own.left.items in
    record {
      seat : IsSeatOf l.shared.claims.now.table.shared.table_id l.shared.claims.now.rows.leads.items l.seat;
      follows : IsToldAfter (told l.fn.seat) (told l.seat);
      wide : length l.own.pivots.items ≡ columns;
      own : ArePivots p columns l.shared.inputs (rows_left l.own.left.items) l.own.pivots.items;
      idle : AreIdle columns l.work.numbers.items;
      grown : (more : List Left) × (l.own.left.items ≡ start ++ more);
      rests : AreRests p columns l.shared.inputs l.shared.rows.now (rows_left start) (told l.fn.seat) (drop l.one-index l.lost) l.left.items;
      replaced : AreReplaced p columns l.shared.inputs l.shared.rows.now (told l.seat) (take l.one-index l.lost) start l.own.left.items;
    }
