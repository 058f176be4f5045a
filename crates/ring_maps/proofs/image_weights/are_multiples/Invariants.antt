use Rattle.std.proofs.Common.{length, ℕ, ◌*◌, ◌<◌, ◌≡◌, ◌≤◌}
use Rattle.std.specs.Prelude.{slice_index}
use Rattle.ring_maps.proofs.image_weights.are_multiples.Given as goal

abbrev pub invariant-loop-i : goal.invariant-loop-i
invariant-loop-i l = record {
  within : l.i ≤ length l.weights;
  each : (k : ℕ) → k < l.i → slice_index l.others k ≡ l.factor * slice_index l.weights k;
}
