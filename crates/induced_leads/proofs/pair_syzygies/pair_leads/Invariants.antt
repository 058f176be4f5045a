use Rattle.term_lists.specs.Rings.{variables}
use Rattle.induced_leads.specs.Pairs.{ArePairLeadsTo}
use Rattle.induced_leads.proofs.pair_syzygies.pair_leads.Given as goal

abbrev pub invariant-loop-i : goal.invariant-loop-i
invariant-loop-i g l = ArePairLeadsTo (variables (g.F.Frame.over l.frame)) (g.F.Frame.over l.frame).weights l.columns l.i l.keys.items
