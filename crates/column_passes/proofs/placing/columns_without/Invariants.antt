use Rattle.std.proofs.Common.{List, map, ℕ, ◌++◌, ◌≡◌}
use Rattle.std.specs.VecDeque.{deque_len}
use Rattle.term_lists.specs.Rings.{ring_comparison, variables}
use Rattle.term_lists.specs.Vectors.{AreVectorsOver, sums_of}
use Rattle.column_passes.specs.Placing.{ArePlacesAfter, without_all}
use Rattle.column_passes.proofs.placing.columns_without.Given as goal

abbrev pub invariant-loop-v : goal.invariant-loop-v
invariant-loop-v l = record {
  same :
      (rows : List ℕ) → ArePlacesAfter rows l.leaving
      → sums_of (variables l.ring) l.without.items ++ map (λ w. without_all rows w) (sums_of (variables l.ring) l.rest.items)
      ≡ map (λ w. without_all rows w) (sums_of (variables l.ring) l.fn.columns);
  vectors : AreVectorsOver l.ring (ring_comparison l.ring) l.without.items;
  left : AreVectorsOver l.ring (ring_comparison l.ring) l.rest.items;
}

abbrev pub decreases-loop-v : goal.decreases-loop-v
decreases-loop-v l = deque_len l.rest
