use Rattle.std.proofs.Common.{[]}
use Rattle.ext_modules.specs.Rows.{AreRowsOf}
use Rattle.ext_modules.proofs.rows.no_rows.Given as goal

abbrev pub invariant-loop : goal.invariant-loop
invariant-loop l = AreRowsOf l.counter [] l.rows.items
