use Rattle.std.proofs.Common.{}
use Rattle.term_lists.specs.Vectors.{AreTermsOver}
use Rattle.complements.proofs.factors.terms_at.Given as goal

abbrev pub invariant-loop-term : goal.invariant-loop-term
invariant-loop-term l = AreTermsOver l.ring l.terms.items
