use Rattle.std.proofs.Common.{map, take}
use Rattle.formal_sums.specs.FormalSums.{FormalSum}
use Rattle.minimal_laws.specs.Cancellation.{AreSameColumns}
use Rattle.term_lists.specs.Rings.{ring_comparison, variables}
use Rattle.term_lists.specs.Vectors.{AreVectorsOver, sums_of}
use Rattle.minimal_betti.proofs.cancelling.own_columns.Given as goal

abbrev pub invariant-loop-v : goal.invariant-loop-v
invariant-loop-v l = record {
  same : AreSameColumns l.ring.modulus.value (map (λ (v : FormalSum (variables l.ring)). v) (sums_of (variables l.ring) (take l.v-index l.v-items)))
      (sums_of (variables l.ring) l.own.items);
  vectors : AreVectorsOver l.ring (ring_comparison l.ring) l.own.items;
}
