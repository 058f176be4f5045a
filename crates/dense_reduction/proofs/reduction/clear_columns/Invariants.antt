use Rattle.std.proofs.Common.{List, None, length, ◌++◌, ◌-◌, ◌<◌, ◌∷◌, ◌≡◌, ◌≤◌}
use Rattle.pivot_table.specs.Law.{IsSeatOf, told}
use Rattle.row_matrix.specs.Rows.{Entry, first_column}
use Rattle.dense_reduction.specs.Reductions.{IsReducedSoFar, least_left}
use Rattle.dense_reduction.specs.Rests.{rows_left}
use Rattle.dense_reduction.specs.Underway.{IsRowUnderway}
use Rattle.dense_reduction.specs.Words.{IsToldAfter}
use Rattle.dense_reduction.proofs.reduction.clear_columns.Given as goal

abbrev pub invariant-loop-c : goal.invariant-loop-c
invariant-loop-c l =
    let p = l.shared.modulus.now.value in
    let rows = l.shared.rows.now in
    let own = rows_left l.own.left.items in
    let pivots = l.own.pivots.items in
    record {
      above : first_column l.row.entries < l.c;
      within : l.c ≤ l.columns;
      seat : IsSeatOf l.shared.claims.now.table.shared.table_id l.shared.claims.now.rows.leads.items l.seat;
      follows : IsToldAfter (told l.fn.seat) (told l.seat);
      underway : IsRowUnderway p l.work.limit l.c (length pivots) (length (rows ++ own)) pivots l.work.left.items l.work.numbers.items l.work.taken.items;
      reduced : IsReducedSoFar p (least_left l.row.entries l.fn.pivot) rows own (told l.seat) l.row l.work.left.items l.work.numbers.items l.work.taken.items;
      front : l.fn.pivot ≡ None → (more : List Entry) × (l.work.left.items ≡ (first_column l.row.entries, 1) ∷ more);
    }

abbrev pub decreases-loop-c : goal.decreases-loop-c
decreases-loop-c l = l.columns - l.c
