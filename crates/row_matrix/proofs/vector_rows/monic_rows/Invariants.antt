use Rattle.std.proofs.Common.{drop, map, ◌++◌, ◌≡◌}
use Rattle.formal_sums.specs.FormalSums.{Each}
use Rattle.term_lists.specs.Rings.{variables}
use Rattle.row_matrix.specs.MonicRows.{IsNamedRow, first_source, nonzero_from}
use Rattle.row_matrix.specs.Rows.{AreKeys}
use Rattle.row_matrix.proofs.vector_rows.monic_rows.Given as goal

abbrev pub invariant-loop-i : goal.invariant-loop-i
invariant-loop-i g l =
    let ring = g.F.Frame.over l.frame in
    let n = variables ring in
    record {
      monomials : AreKeys n ring.weights l.keys;
      each : Each (IsNamedRow n ring.modulus.value l.list l.keys) l.rows.items;
      order : map first_source l.rows.items ++ nonzero_from l.i (drop l.i l.list) ≡ nonzero_from 0 l.list;
    }
