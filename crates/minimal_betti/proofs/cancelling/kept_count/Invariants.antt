use Rattle.std.proofs.Common.{length, map, take, ℕ, ◌≡◌, ◌≤◌}
use Rattle.minimal_laws.specs.Cancellation.{trimmed}
use Rattle.minimal_betti.specs.Carried.{graded_map}
use Rattle.minimal_betti.proofs.cancelling.kept_count.Given as goal

abbrev pub invariant-loop-kept : goal.invariant-loop-kept
invariant-loop-kept l = record {
  bound : l.kept ≤ length l.maps;
  is : (n : ℕ) → trimmed (map (graded_map n) l.maps) ≡ trimmed (map (graded_map n) (take l.kept l.maps));
}

abbrev pub decreases-loop-kept : goal.decreases-loop-kept
decreases-loop-kept l = l.kept
