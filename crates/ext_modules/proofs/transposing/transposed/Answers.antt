use Rattle.std.proofs.Common.{IfOk, subst}
use Rattle.term_lists.specs.Rings.{variables}
use Rattle.syzygy_engine.specs.Runs.{AreVectorsFor}
use Rattle.ext_modules.proofs.RowVectors.{rows_over, rows_sums}
use Rattle.ext_modules.proofs.transposing.transposed.Goals as goal

pub row_vectors-requires : goal.row_vectors-requires
row_vectors-requires c = rows_over c.args.ring.now c.args.count c.args.columns.now c.in_ok-rows.rows.items c.in_ok-rows.ensures c.requires.terms

pub returns : goal.returns
returns c =
    subst (λ L. IfOk c.row_vectors.result (AreVectorsFor c.args.ring.now L)) (rows_sums (variables c.args.ring.now) c.args.count c.args.columns.now c.in_ok-rows.rows.items c.in_ok-rows.ensures)
    c.row_vectors.ensures
