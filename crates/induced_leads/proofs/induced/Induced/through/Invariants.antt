use Rattle.std.proofs.Common.{take}
use Rattle.term_lists.specs.Rings.{variables}
use Rattle.induced_leads.specs.Heads.{AreHeads}
use Rattle.induced_leads.proofs.induced.Induced.through.Given as goal

abbrev pub invariant-loop-k : goal.invariant-loop-k
invariant-loop-k l = AreHeads (variables l.ring) l.ring.weights (take l.k l.maps) l.heads
