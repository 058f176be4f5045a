use Rattle.std.proofs.Common.{List, ℕ, ◌++◌, ◌≡◌}
use Rattle.std.specs.VecDeque.{deque_len}
use Rattle.column_passes.specs.Placing.{ArePlacesAfter, placed}
use Rattle.column_passes.proofs.placing.placed_vector.Given as goal

abbrev pub invariant-loop-term : goal.invariant-loop-term
invariant-loop-term l = (rows : List ℕ) → ArePlacesAfter rows l.leaving → l.left.items ++ placed rows l.rest.items ≡ placed rows l.fn.v

abbrev pub decreases-loop-term : goal.decreases-loop-term
decreases-loop-term l = deque_len l.rest
