use Rattle.ext_modules.proofs.RowVectors.{one_more_sorted}
use Rattle.ext_modules.proofs.transposing.row_vectors.Goals as goal

pub loop-row-preserved : goal.loop-row-preserved
loop-row-preserved c =
    one_more_sorted c.args.ring.now c.args.rows.items c.loop-row.vectors.items c.take_row.new.vectors.items c.loop-row.row-iterator.rest.items c.in-Some.row _ c.loop-row.invariant
    c.in-Some.ensures.steps.0 (c.in_ok-take_row.ensures _ c.loop-row.invariant.stand)
