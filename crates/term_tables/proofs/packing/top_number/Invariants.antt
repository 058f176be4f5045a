use Rattle.std.proofs.Common.{take, ◌≤◌}
use Rattle.formal_sums.specs.FormalSums.{Each}
use Rattle.term_tables.proofs.packing.top_number.Given as goal

abbrev pub invariant-loop-term : goal.invariant-loop-term
invariant-loop-term l = Each (λ t. t.0 ≤ l.top) (take l.term-index l.terms)
