use Rattle.std.proofs.Common.{[], true, ◌≡◌}
use Rattle.term_lists.specs.Rings.{variables}
use Rattle.vector_division.specs.Progress.{room_of}
use Rattle.vector_division.specs.Runs.{IsSplit, IsNext, total, with_next}
use Rattle.vector_division.proofs.reduction.take_products.Given as goal

abbrev pub invariant-loop-next : goal.invariant-loop-next
invariant-loop-next g l =
    let ring = g.F.Frame.over l.frame in
    let n = variables ring in
    record {
      next : IsNext n ring.weights ring.modulus.value (g.F.Frame.compare l.frame n) l.left l.next;
      kept : IsSplit n ring.weights ring.modulus.value (g.F.Frame.compare l.frame n) l.v (g.L.Vectors.listed l.list)
          l.quotients.items l.rest.items l.left (with_next n l.next (total n l.left));
      none : l.lead_alone ≡ true → l.rest.items ≡ [];
    }

abbrev pub decreases-loop-next : goal.decreases-loop-next
decreases-loop-next g l =
    let n = variables (g.F.Frame.over l.frame) in
    room_of (g.F.Frame.compare l.frame n) (with_next n l.next [])
