use Rattle.std.proofs.Common.{take, ◌≡◌}
use Rattle.formal_sums.specs.FormalSums.{Each}
use Rattle.session_reports.proofs.minimising.has_two_degrees.Given as goal

abbrev pub invariant-loop-term : goal.invariant-loop-term
invariant-loop-term l = Each (λ t. t.0.monomial.degree ≡ l.first.0.monomial.degree) (take l.term-index l.rest)
