use Rattle.std.proofs.Common.{take, ◌≡◌}
use Rattle.formal_sums.specs.FormalSums.{Each}
use Rattle.degree_engine.proofs.homogeneity.have_degree.Given as goal

abbrev pub invariant-loop-term : goal.invariant-loop-term
invariant-loop-term l = Each (λ t. t.0.monomial.degree ≡ l.degree) (take l.term-index l.terms)
