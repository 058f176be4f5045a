use Rattle.std.proofs.Common.{take}
use Rattle.term_lists.specs.Vectors.{HasPositions}
use Rattle.term_lists.proofs.terms.are_below.Given as goal

abbrev pub invariant-loop-term : goal.invariant-loop-term
invariant-loop-term l = HasPositions l.rank (take l.term-index l.terms)
