use Rattle.std.proofs.Common.{length, suc, take, ◌≡◌, ◌≤◌}
use Rattle.std.specs.Vec.{vec_capacity, vec_len}
use Rattle.homogeneous_laws.specs.Homogeneous.{dehomogenised}
use Rattle.term_lists.specs.Rings.{variables}
use Rattle.term_lists.specs.Vectors.{AreTermsOver, sum_of}
use Rattle.degree_engine.proofs.last_variable.lowered_terms.Given as goal

abbrev pub invariant-loop-term : goal.invariant-loop-term
invariant-loop-term l = record {
  over : AreTermsOver l.ring l.lowered.items;
  at_one : sum_of (variables l.ring) l.lowered.items ≡ dehomogenised (sum_of (suc (variables l.ring)) (take l.term-index l.terms));
  len : vec_len l.lowered ≡ l.term-index;
  room : length l.terms ≤ vec_capacity l.lowered;
}
