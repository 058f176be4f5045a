use Rattle.term_lists.specs.Vectors.{AreTermsOver}
use Rattle.core_histories.proofs.leading.minimal.Given as goal

abbrev pub invariant-loop-i : goal.invariant-loop-i
invariant-loop-i l = AreTermsOver l.ring l.terms.items
