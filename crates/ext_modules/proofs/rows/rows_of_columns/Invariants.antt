use Rattle.std.proofs.Common.{take}
use Rattle.ext_modules.specs.Rows.{AreRowsOf}
use Rattle.ext_modules.proofs.rows.rows_of_columns.Given as goal

abbrev pub invariant-loop-j : goal.invariant-loop-j
invariant-loop-j l = AreRowsOf l.count (take l.j l.columns) l.rows.items
