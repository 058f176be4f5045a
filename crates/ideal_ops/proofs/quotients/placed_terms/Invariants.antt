use Rattle.std.proofs.Common.{take, ◌≡◌}
use Rattle.ideal_ops.specs.Components.{positioned_at}
use Rattle.ideal_ops.proofs.quotients.placed_terms.Given as goal

abbrev pub invariant-loop-term : goal.invariant-loop-term
invariant-loop-term l = l.terms.items ≡ positioned_at l.position (take l.term-index l.term-items)
