use Rattle.std.proofs.Common.{take, ◌++◌}
use Rattle.monomials.specs.Exponents.{unit}
use Rattle.formal_sums.specs.FormalSums.{scale}
use Rattle.map_laws.specs.Graphs.{in_first}
use Rattle.term_lists.specs.Rings.{variables}
use Rattle.term_lists.specs.Vectors.{AreTermsOver, StandsFor, sum_of}
use Rattle.ring_maps.proofs.first_variables.push_first.Given as goal

abbrev pub invariant-loop-term : goal.invariant-loop-term
invariant-loop-term l = record {
  over : AreTermsOver l.graph l.more.items;
  sum : StandsFor l.graph l.more.items
      (sum_of (variables l.graph) l.fn.more.items ++ scale l.c (unit (variables l.graph)) (in_first (variables l.graph) (sum_of (variables l.ring) (take l.term-index l.terms))));
}
