use Rattle.std.proofs.Common.{}
use Rattle.term_lists.specs.Vectors.{AreTermsOver}
use Rattle.complements.proofs.factors.factors_at.Given as goal

abbrev pub invariant-loop-i : goal.invariant-loop-i
invariant-loop-i l = AreTermsOver l.ring l.factors.items
