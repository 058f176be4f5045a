use Rattle.std.proofs.Common.{take, ◌≡◌}
use Rattle.operation_laws.specs.Operations.{stacked}
use Rattle.term_lists.specs.Rings.{variables}
use Rattle.term_lists.specs.Vectors.{AreTermsOver, sum_of, sums_of}
use Rattle.ideal_ops.proofs.stacking.stacked_terms.Given as goal

abbrev pub invariant-loop-j : goal.invariant-loop-j
invariant-loop-j l = record {
  over : AreTermsOver l.ring l.terms.items;
  sum : sum_of (variables l.ring) l.terms.items ≡ stacked l.rank 0 (sums_of (variables l.ring) (take l.j l.by));
}
