use Rattle.std.proofs.Common.{map, ◌++◌, ◌≡◌}
use Rattle.std.specs.VecDeque.{deque_len}
use Rattle.minimal_betti.proofs.cancelling.columns_alone.Given as goal

abbrev pub invariant-loop-map : goal.invariant-loop-map
invariant-loop-map l = l.columns.items ++ map (λ m. m.columns) l.rest.items ≡ map (λ m. m.columns) l.fn.maps.items

abbrev pub decreases-loop-map : goal.decreases-loop-map
decreases-loop-map l = deque_len l.rest
