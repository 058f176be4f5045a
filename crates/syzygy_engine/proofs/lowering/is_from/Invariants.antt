use Rattle.std.proofs.Common.{take, ◌≤◌}
use Rattle.formal_sums.specs.FormalSums.{Each}
use Rattle.syzygy_engine.proofs.lowering.is_from.Given as goal

abbrev pub invariant-loop-term : goal.invariant-loop-term
invariant-loop-term l = Each (λ t. l.position ≤ t.0.position) (take l.term-index l.term-items)
