use Rattle.std.proofs.Common.{take, ◌<◌, ◌≤◌}
use Rattle.formal_sums.specs.FormalSums.{Each}
use Rattle.schreyer_resolution.proofs.marking.greatest_degree.Given as goal

abbrev pub invariant-loop-term : goal.invariant-loop-term
invariant-loop-term l = record {
  above : Each (λ u. u.0.monomial.degree ≤ l.greatest) (take l.term-index l.terms);
  small : l.greatest < 4294967296;
}
