use Rattle.std.proofs.Common.{take}
use Rattle.term_lists.specs.Rings.{ring_comparison}
use Rattle.term_lists.specs.Vectors.{AreVectorsOver}
use Rattle.degree_engine.specs.Resorted.{AreResorted}
use Rattle.degree_engine.proofs.by_change.resorted_list.Given as goal

abbrev pub invariant-loop-v : goal.invariant-loop-v
invariant-loop-v l = record {
  vectors : AreVectorsOver l.graded (ring_comparison l.graded) l.vectors.items;
  same : AreResorted l.ring (take l.v-index l.v-items) l.vectors.items;
}
