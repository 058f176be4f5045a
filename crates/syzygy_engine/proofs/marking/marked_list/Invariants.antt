use Rattle.std.proofs.Common.{take}
use Rattle.syzygy_laws.specs.Syzygies.{marked}
use Rattle.term_lists.specs.Rings.{ring_comparison, variables}
use Rattle.term_lists.specs.Vectors.{AreVectorsOver, sums_of}
use Rattle.syzygy_engine.specs.Marking.{StandOneByOne, position_ring}
use Rattle.syzygy_engine.proofs.marking.marked_list.Given as goal

abbrev pub invariant-loop-i : goal.invariant-loop-i
invariant-loop-i l = record {
  vectors : AreVectorsOver (position_ring l.ring) (ring_comparison (position_ring l.ring)) l.marked.items;
  stand : StandOneByOne l.ring l.marked.items (take l.i (marked l.rank 0 (sums_of (variables l.ring) l.list)));
}
