use Rattle.std.proofs.Common.{take, ◌≡◌}
use Rattle.term_lists.specs.Rings.{variables}
use Rattle.term_lists.specs.Vectors.{AreTermsOver, sum_of}
use Rattle.sparse_poly.specs.TermPowers.{raised_monomials}
use Rattle.sparse_poly.proofs.prime_power.raised_terms.Given as goal

abbrev pub invariant-loop-term : goal.invariant-loop-term
invariant-loop-term l = record {
  over : AreTermsOver l.ring l.raised.items;
  raised : sum_of (variables l.ring) l.raised.items ≡ raised_monomials l.ring.modulus.value (sum_of (variables l.ring) (take l.term-index l.terms));
}
