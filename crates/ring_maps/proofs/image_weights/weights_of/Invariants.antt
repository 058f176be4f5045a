use Rattle.std.proofs.Common.{length, ◌≡◌, ◌≤◌}
use Rattle.monomial_orders.specs.Kept.{AreWeights}
use Rattle.ring_maps.proofs.image_weights.weights_of.Given as goal

abbrev pub invariant-loop-i : goal.invariant-loop-i
invariant-loop-i l = record {
  within : l.i ≤ length l.images;
  count : length l.weights.items ≡ l.i;
  positive : AreWeights l.weights.items;
}
