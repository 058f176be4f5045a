use Rattle.pivot_table.specs.Law.{IsSeatOf}
use Rattle.row_reduce.proofs.helping.claim_each.Given as goal

abbrev pub invariant-loop-number : goal.invariant-loop-number
invariant-loop-number l = IsSeatOf l.shared.claims.now.table.shared.table_id l.shared.claims.now.rows.leads.items l.seat
