use Rattle.std.proofs.Common.{[]}
use Rattle.term_lists.specs.Rings.{variables}
use Rattle.vector_division.specs.Progress.{room_of}
use Rattle.vector_division.specs.Runs.{IsNext, total, with_next}
use Rattle.schreyer_resolution.specs.Columns.{IsColumnUnderway}
use Rattle.schreyer_resolution.proofs.column.divided.Given as goal

abbrev pub invariant-loop-next : goal.invariant-loop-next
invariant-loop-next g l =
    let ring = g.F.Frame.over l.frame in
    let n = variables ring in
    record {
      next : IsNext n ring.weights ring.modulus.value (g.F.Frame.compare l.frame n) l.buckets l.next;
      underway : IsColumnUnderway ring (g.F.Frame.compare l.frame) l.columns l.key l.quotients.items l.buckets (with_next n l.next (total n l.buckets));
    }

abbrev pub decreases-loop-next : goal.decreases-loop-next
decreases-loop-next g l =
    let n = variables (g.F.Frame.over l.frame) in
    room_of (g.F.Frame.compare l.frame n) (with_next n l.next [])
