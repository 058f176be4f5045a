use Rattle.std.proofs.Common.{length}
use Rattle.hilbert_series.proofs.Positions.{AreFound}
use Rattle.hilbert_series.proofs.leads.generators_at.Given as goal

abbrev pub invariant-loop-lead : goal.invariant-loop-lead
invariant-loop-lead l = AreFound (length l.weights) l.weights l.i l.leads l.found.items l.lead-index
