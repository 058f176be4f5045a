use Rattle.std.specs.VecDeque.{deque_len}
use Rattle.induced_leads.specs.Sifting.{IsSifting}
use Rattle.induced_leads.proofs.sifting.covered_terms.Given as goal

abbrev pub invariant-loop-term : goal.invariant-loop-term
invariant-loop-term g l = IsSifting (g.F.Frame.over l.frame) (g.F.Frame.compare l.frame) l.columns l.fn.v l.kept.items l.rest.items

abbrev pub decreases-loop-term : goal.decreases-loop-term
decreases-loop-term g l = deque_len l.rest
