use Rattle.std.proofs.Common.{take, ◌≡◌}
use Rattle.resolution_maps.specs.Resolved.{degrees_of}
use Rattle.resolution_maps.proofs.maps.column_degrees.Given as goal

abbrev pub invariant-loop-v : goal.invariant-loop-v
invariant-loop-v l = l.degrees.items ≡ degrees_of l.ring l.rows (take l.v-index l.v-items)
