use Rattle.std.proofs.Common.{length}
use Rattle.script_forms.proofs.VectorLists.{IsReadingVectors}
use Rattle.script_forms.proofs.vectors.vectors.Given as goal

abbrev pub invariant-loop-at : goal.invariant-loop-at
invariant-loop-at l = IsReadingVectors l.tokens l.rest l.found.items l.shape

abbrev pub decreases-loop-at : goal.decreases-loop-at
decreases-loop-at l = length l.rest
