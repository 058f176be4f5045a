use Rattle.std.proofs.Common.{◌+◌, ◌-◌, ℕ}
use Rattle.std.specs.Vec.{vec_len}
use Rattle.induced_leads.specs.Spans.{IsSpannedAt}
use Rattle.induced_leads.proofs.divisors.widen.Given as goal

abbrev pub invariant-loop-spans : goal.invariant-loop-spans
invariant-loop-spans l = (p j : ℕ) → IsSpannedAt l.fn.spans.items p j → IsSpannedAt l.spans.items p j

abbrev pub decreases-loop-spans : goal.decreases-loop-spans
decreases-loop-spans l = (l.position + 1) - vec_len l.spans
