use Rattle.std.proofs.Common.{length}
use Rattle.script_forms.proofs.Pieces.{IsReading}
use Rattle.script_forms.proofs.polynomials.polynomials.Given as goal

abbrev pub invariant-loop-at : goal.invariant-loop-at
invariant-loop-at l = IsReading l.tokens l.rest l.found.items

abbrev pub decreases-loop-at : goal.decreases-loop-at
decreases-loop-at l = length l.rest
