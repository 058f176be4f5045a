use Rattle.std.proofs.Common.{◌+◌}
use Rattle.betti_laws.specs.Tables.{step_count}
use Rattle.minimal_betti.specs.Graded.{graded_of}
use Rattle.minimal_betti.specs.Growing.{IsTableTo}
use Rattle.minimal_betti.proofs.tables.table.Given as goal

abbrev pub invariant-loop-k : goal.invariant-loop-k
invariant-loop-k l =
    let C = graded_of l.ring l.resolution in
    IsTableTo (step_count C.positions C.maps) l.entries.items (l.k + 1) 0
