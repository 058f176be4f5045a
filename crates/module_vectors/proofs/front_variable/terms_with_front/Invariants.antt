use Rattle.std.proofs.Common.{length, take, ◌≡◌, ◌≤◌}
use Rattle.std.specs.Vec.{vec_capacity, vec_len}
use Rattle.term_lists.specs.FrontVariables.{with_front}
use Rattle.module_vectors.proofs.front_variable.terms_with_front.Given as goal

abbrev pub invariant-loop-term : goal.invariant-loop-term
invariant-loop-term l = record {
  items : l.more.items ≡ with_front (take l.term-index l.terms);
  len : vec_len l.more ≡ l.term-index;
  room : length l.terms ≤ vec_capacity l.more;
}
