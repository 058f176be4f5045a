use Rattle.std.proofs.Common.{take}
use Rattle.column_passes.specs.Constants.{IsLeastUnit}
use Rattle.column_passes.proofs.constants.least_unit.Given as goal

abbrev pub invariant-loop-term : goal.invariant-loop-term
invariant-loop-term l = IsLeastUnit (take l.term-index l.term-items) l.least
