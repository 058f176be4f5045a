use Rattle.std.proofs.Common.{length, suc, take, ◌≡◌, ◌≤◌}
use Rattle.std.specs.Vec.{vec_capacity, vec_len}
use Rattle.formal_sums.specs.FormalSums.{Each}
use Rattle.homogeneous_laws.specs.Homogeneous.{dehomogenised}
use Rattle.term_lists.specs.Rings.{variables}
use Rattle.term_lists.specs.Vectors.{AreTermsOver, sum_of}
use Rattle.degree_engine.proofs.last_variable.raised_terms.Given as goal

abbrev pub invariant-loop-term : goal.invariant-loop-term
invariant-loop-term l = record {
  over : AreTermsOver l.more l.raised.items;
  at_one : dehomogenised (sum_of (suc (variables l.ring)) l.raised.items) ≡ sum_of (variables l.ring) (take l.term-index l.terms);
  degree : Each (λ t. t.0.monomial.degree ≡ l.degree) l.raised.items;
  len : vec_len l.raised ≡ l.term-index;
  room : length l.terms ≤ vec_capacity l.raised;
}
