use Rattle.std.proofs.Common.{take, ◌≡◌}
use Rattle.schreyer_resolution.proofs.trails.copy_maps.Given as goal

abbrev pub invariant-loop-columns : goal.invariant-loop-columns
invariant-loop-columns l = l.copy.items ≡ take l.columns-index l.maps
