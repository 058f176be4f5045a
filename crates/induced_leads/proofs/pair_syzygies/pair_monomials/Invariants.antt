use Rattle.term_lists.specs.Rings.{variables}
use Rattle.induced_leads.specs.Pairs.{ArePairMonomials}
use Rattle.induced_leads.proofs.pair_syzygies.pair_monomials.Given as goal

abbrev pub invariant-loop-j : goal.invariant-loop-j
invariant-loop-j l = ArePairMonomials (variables l.ring) l.ring.weights l.columns l.index l.j l.found.items
