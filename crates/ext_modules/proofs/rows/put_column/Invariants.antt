use Rattle.std.proofs.Common.{take}
use Rattle.ext_modules.specs.Rows.{ArePut}
use Rattle.ext_modules.proofs.rows.put_column.Given as goal

abbrev pub invariant-loop-term : goal.invariant-loop-term
invariant-loop-term l = ArePut l.column (take l.term-index l.term-items) l.fn.rows.items l.rows.items
