use Rattle.term_lists.specs.Vectors.{AreTermsOver}
use Rattle.check_texts.proofs.vectors.terms_of.Given as goal

abbrev pub invariant-loop-position : goal.invariant-loop-position
invariant-loop-position l = AreTermsOver l.ring l.terms.items
