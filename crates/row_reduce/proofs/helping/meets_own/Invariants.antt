use Rattle.std.proofs.Common.{get_or, take, ◌≡◌}
use Rattle.formal_sums.specs.FormalSums.{Each}
use Rattle.row_matrix.specs.Rows.{Entry}
use Rattle.row_reduce.proofs.helping.meets_own.Given as goal

abbrev pub invariant-loop-entry : goal.invariant-loop-entry
invariant-loop-entry l = record { free : Each (λ (e : Entry). get_or l.own.pivots.items e.0 0 ≡ 0) (take l.entry-index l.row.entries) }
