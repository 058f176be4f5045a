use Rattle.std.proofs.Common.{take, ◌++◌, ◌≡◌}
use Rattle.ideal_ops.specs.Components.{raised_terms}
use Rattle.ideal_ops.proofs.stacking.push_raised.Given as goal

abbrev pub invariant-loop-term : goal.invariant-loop-term
invariant-loop-term l = l.terms.items ≡ l.fn.terms.items ++ raised_terms l.by (take l.term-index l.term-items)
