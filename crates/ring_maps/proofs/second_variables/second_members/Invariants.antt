use Rattle.std.proofs.Common.{List, ◌++◌, ◌≡◌}
use Rattle.map_laws.specs.Graphs.{of_second}
use Rattle.term_lists.specs.Rings.{variables}
use Rattle.term_lists.specs.Vectors.{sums_of}
use Rattle.syzygy_engine.specs.Runs.{AreVectorsFor}
use Rattle.syzygy_engine.proofs.Standing.{Terms}
use Rattle.ring_maps.proofs.second_variables.second_members.Given as goal

abbrev pub invariant-loop-v : goal.invariant-loop-v
invariant-loop-v l =
    (done : List Terms) × (done ++ l.v-iterator.rest.items ≡ l.fn.basis)
    × AreVectorsFor l.ring (of_second (variables l.ring) (sums_of (variables l.graph) done)) l.members.items
