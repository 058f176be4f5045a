use Rattle.std.proofs.Common.{[], ◌%◌, ◌∷◌, ◌≡◌}
use Rattle.term_lists.specs.Rings.{variables}
use Rattle.term_lists.specs.Vectors.{AreTermsOver, sum_of}
use Rattle.sparse_poly.specs.Binomials.{IsExpanding, choose}
use Rattle.sparse_poly.proofs.binomial.binomial_terms.Given as goal

abbrev pub invariant-loop-i : goal.invariant-loop-i
invariant-loop-i l = record {
  over : AreTermsOver l.ring l.terms.items;
  coefficient : l.coefficient ≡ choose l.n l.i % l.ring.modulus.value;
  expanding : let m = variables l.ring in IsExpanding l.ring.modulus.value l.n l.i (sum_of m (l.a ∷ [])) (sum_of m (l.b ∷ [])) (sum_of m l.terms.items);
}
