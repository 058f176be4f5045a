use Rattle.std.proofs.Common.{slice_index, ℕ, ◌<◌, ◌≡◌, ◌≤◌}
use Rattle.monomial_orders.proofs.places.differing_places.Given as goal

abbrev pub invariant-loop-n : goal.invariant-loop-n
invariant-loop-n l = record {
  inside : l.n ≤ l.m;
  same : (k : ℕ) → l.n ≤ k → k < l.m → slice_index l.a k ≡ slice_index l.b k;
}

abbrev pub decreases-loop-n : goal.decreases-loop-n
decreases-loop-n l = l.n
