use Rattle.std.proofs.Common.{length, ◌++◌, ◌<◌, ◌≡◌}
use Rattle.formal_sums.specs.FormalSums.{Each}
use Rattle.term_lists.specs.FrontVariables.{HaveNoFront, without_front}
use Rattle.module_vectors.proofs.front_variable.terms_without_front.Given as goal

abbrev pub invariant-loop-term : goal.invariant-loop-term
invariant-loop-term l = record {
  items : l.fewer.items ++ without_front l.term-iterator.rest.items ≡ without_front l.fn.terms.items;
  variables : Each (λ t. 0 < length t.0.monomial.exponents) l.term-iterator.rest.items;
  none : HaveNoFront l.term-iterator.rest.items;
}
