use Rattle.std.proofs.Common.{take}
use Rattle.pivot_table.specs.Law.{IsSeatOf, told}
use Rattle.dense_reduction.specs.LostRows.{AreClaimed}
use Rattle.dense_reduction.proofs.claiming.claim_rows.Given as goal

abbrev pub invariant-loop-number : goal.invariant-loop-number
invariant-loop-number l = record {
  seat : IsSeatOf l.shared.claims.now.table.shared.table_id l.shared.claims.now.rows.leads.items l.seat;
  claimed : AreClaimed l.shared.rows.now (take l.number-index l.mine) (told l.seat) l.lost.items;
}
