use Rattle.term_lists.specs.Vectors.{AreTermsOver}
use Rattle.check_texts.proofs.vectors.append_differences.Given as goal

abbrev pub invariant-loop-part : goal.invariant-loop-part
invariant-loop-part l = AreTermsOver l.ring l.terms.items
