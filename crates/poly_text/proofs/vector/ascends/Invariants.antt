use Rattle.std.proofs.Common.{drop}
use Rattle.poly_text.specs.Writing.{AscendsFrom}
use Rattle.poly_text.proofs.vector.ascends.Given as goal

abbrev pub invariant-loop-term : goal.invariant-loop-term
invariant-loop-term l = AscendsFrom l.low (drop l.term-index l.terms) → AscendsFrom 0 l.terms
