use Rattle.std.proofs.Common.{length, take, ◌≡◌, ◌≤◌}
use Rattle.std.specs.Vec.{vec_capacity, vec_len}
use Rattle.term_lists.proofs.terms.copy_terms.Given as goal

abbrev pub invariant-loop-term : goal.invariant-loop-term
invariant-loop-term l = record {
  items : l.copy.items ≡ take l.term-index l.terms;
  len : vec_len l.copy ≡ l.term-index;
  room : length l.terms ≤ vec_capacity l.copy;
}
