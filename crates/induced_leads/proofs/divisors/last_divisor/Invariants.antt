use Rattle.std.proofs.Common.{length, ◌≤◌}
use Rattle.term_lists.specs.Rings.{variables}
use Rattle.term_lists.specs.Vectors.{key_of}
use Rattle.induced_leads.specs.Spans.{AreTriedFrom}
use Rattle.induced_leads.proofs.divisors.last_divisor.Given as goal

abbrev pub invariant-loop-i : goal.invariant-loop-i
invariant-loop-i l = record {
  inside : l.i ≤ length l.columns;
  tried : AreTriedFrom (variables l.ring) l.columns (key_of (variables l.ring) l.key) l.i;
}

abbrev pub decreases-loop-i : goal.decreases-loop-i
decreases-loop-i l = l.i
