use Rattle.std.proofs.Common.{take, ◌+◌}
use Rattle.minimal_betti.specs.Growing.{AreRead}
use Rattle.minimal_betti.proofs.tables.invariants.Given as goal

abbrev pub invariant-loop-entry : goal.invariant-loop-entry
invariant-loop-entry l = AreRead (take (l.entry-index + 1) l.entries) l.found
