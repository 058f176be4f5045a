use Rattle.std.proofs.Common.{◌++◌, ◌≡◌}
use Rattle.map_laws.specs.Graphs.{from_second}
use Rattle.term_lists.specs.Rings.{variables}
use Rattle.term_lists.specs.Vectors.{AreTermsOver, sum_of}
use Rattle.ring_maps.proofs.second_variables.second_terms.Given as goal

abbrev pub invariant-loop-term : goal.invariant-loop-term
invariant-loop-term l = record {
  over : AreTermsOver l.ring l.fewer.items;
  rest : AreTermsOver l.graph l.term-iterator.rest.items;
  sum : sum_of (variables l.ring) l.fewer.items ++ from_second (variables l.ring) (sum_of (variables l.graph) l.term-iterator.rest.items)
      ≡ from_second (variables l.ring) (sum_of (variables l.graph) l.fn.terms.items);
}
