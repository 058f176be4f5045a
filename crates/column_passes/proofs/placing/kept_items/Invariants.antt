use Rattle.std.proofs.Common.{length, ◌+◌, ◌++◌, ◌≡◌}
use Rattle.std.specs.VecDeque.{deque_len}
use Rattle.column_passes.specs.Placing.{place_told}
use Rattle.column_passes.proofs.Places.{staying}
use Rattle.column_passes.proofs.placing.kept_items.Given as goal

abbrev pub invariant-loop-item : goal.invariant-loop-item
invariant-loop-item g l = record {
  number : l.number + length l.rest.items ≡ length l.fn.items.items;
  kept : l.kept.items ++ staying (place_told l.leaving) l.number l.rest.items ≡ staying (place_told l.leaving) 0 l.fn.items.items;
}

abbrev pub decreases-loop-item : goal.decreases-loop-item
decreases-loop-item g l = deque_len l.rest
