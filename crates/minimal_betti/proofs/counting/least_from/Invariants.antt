use Rattle.std.proofs.Common.{take}
use Rattle.minimal_betti.specs.Growing.{IsLeastDegree}
use Rattle.minimal_betti.proofs.counting.least_from.Given as goal

abbrev pub invariant-loop-d : goal.invariant-loop-d
invariant-loop-d l = IsLeastDegree l.from l.least (take l.d-index l.degrees)
