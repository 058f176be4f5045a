use Rattle.std.proofs.Common.{◌<◌}
use Rattle.std.specs.List.Sorted.{IsSortedWithin}
use Rattle.std.specs.Ordering.{is_lt}
use Rattle.term_lists.specs.Rings.{variables}
use Rattle.row_matrix.specs.Naming.{by_descent}
use Rattle.row_matrix.proofs.numbering.descend.Given as goal

abbrev pub invariant-loop-k : goal.invariant-loop-k
invariant-loop-k g l =
    let n = variables (g.F.Frame.over l.frame) in
    record {
      some : 0 < l.k;
      sorted : IsSortedWithin (λ i j. is_lt (by_descent n (g.F.Frame.compare l.frame n) l.keys i j)) l.numbers 0 l.k;
    }
