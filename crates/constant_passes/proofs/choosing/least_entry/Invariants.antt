use Rattle.std.proofs.Common.{take}
use Rattle.constant_passes.specs.Choosing.{IsLeastEntry}
use Rattle.constant_passes.proofs.choosing.least_entry.Given as goal

abbrev pub invariant-loop-entry : goal.invariant-loop-entry
invariant-loop-entry l = IsLeastEntry (take l.entry-index l.entries) l.least
