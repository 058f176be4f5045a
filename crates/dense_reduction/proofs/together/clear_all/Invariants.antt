use Rattle.std.proofs.Common.{length, ◌-◌, ◌≤◌}
use Rattle.pivot_table.specs.Law.{IsSeatOf, told}
use Rattle.dense_reduction.specs.Eights.{AreCleared}
use Rattle.dense_reduction.specs.Rests.{rows_left}
use Rattle.dense_reduction.specs.Together.{AreOnTheirWay}
use Rattle.dense_reduction.specs.Words.{IsToldAfter}
use Rattle.dense_reduction.proofs.together.clear_all.Given as goal

abbrev pub invariant-loop-c : goal.invariant-loop-c
invariant-loop-c l =
    let p = l.shared.modulus.now.value in
    let rows = l.shared.rows.now in
    let own = rows_left l.own.left.items in
    let pivots = l.own.pivots.items in
    record {
      within : l.c ≤ l.columns;
      seat : IsSeatOf l.shared.claims.now.table.shared.table_id l.shared.claims.now.rows.leads.items l.seat;
      follows : IsToldAfter (told l.fn.seat) (told l.seat);
      cleared : AreCleared p l.together.limit l.c (length pivots) l.together.numbers.items;
      way : AreOnTheirWay p l.together.limit l.c (length pivots) rows own pivots (told l.seat) l.together.left.items l.together.numbers.items
          l.together.taken.items 0 l.lost;
    }

abbrev pub decreases-loop-c : goal.decreases-loop-c
decreases-loop-c l = l.columns - l.c
