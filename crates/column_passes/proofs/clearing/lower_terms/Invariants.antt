use Rattle.std.proofs.Common.{drop, take, ◌++◌, ◌≡◌}
use Rattle.column_passes.specs.Clearing.{lowered_behind}
use Rattle.column_passes.proofs.clearing.lower_terms.Given as goal

abbrev pub invariant-loop-i : goal.invariant-loop-i
invariant-loop-i l = l.terms.items ≡ lowered_behind l.row (take l.i l.fn.terms.items) ++ drop l.i l.fn.terms.items
