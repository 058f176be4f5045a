use Rattle.std.proofs.Common.{drop, take}
use Rattle.term_lists.specs.Rings.{variables}
use Rattle.row_matrix.specs.Naming.{IsPlacing}
use Rattle.row_matrix.proofs.numbering.number_columns.Given as goal

abbrev pub invariant-loop-number : goal.invariant-loop-number
invariant-loop-number g l =
    let ring = g.F.Frame.over l.frame in
    let n = variables ring in
    IsPlacing n ring.weights (g.F.Frame.compare l.frame n) l.keys l.columns.items l.places.items (take l.number-index l.number-items) (drop l.number-index l.number-items)
