use Rattle.std.proofs.Common.{length, take, ◌≡◌, ◌≤◌}
use Rattle.std.specs.Vec.{vec_capacity, vec_len}
use Rattle.term_lists.specs.Rings.{ring_comparison}
use Rattle.term_lists.specs.Vectors.{AreVectorsOver}
use Rattle.degree_engine.specs.LastVariables.{AreAtOne}
use Rattle.degree_engine.proofs.last_variable.lowered_list.Given as goal

abbrev pub invariant-loop-v : goal.invariant-loop-v
invariant-loop-v l = record {
  vectors : AreVectorsOver l.ring (ring_comparison l.ring) l.vectors.items;
  at_one : AreAtOne l.ring (take l.v-index l.v-items) l.vectors.items;
  len : vec_len l.vectors ≡ l.v-index;
  room : length l.v-items ≤ vec_capacity l.vectors;
}
