use Rattle.std.proofs.Common.{}
use Rattle.term_lists.specs.Vectors.{AreTermsOver}
use Rattle.complements.proofs.factors.push_factors.Given as goal

abbrev pub invariant-loop-entry : goal.invariant-loop-entry
invariant-loop-entry l = AreTermsOver l.ring l.factors.items
