use Rattle.std.proofs.Common.{arith}
use Rattle.column_passes.proofs.Lowering.{lowered_step}
use Rattle.column_passes.proofs.clearing.lower_terms.Goals as goal

pub loop-i-preserved : goal.loop-i-preserved
loop-i-preserved c =
    lowered_step c.args.row c.args.terms.now.items c.loop-i.terms.items c.loop-i.i c.lower_position-position.result c.index.result.now
    c.index_mut.result.now (omega arith) c.loop-i.invariant
    c.index.ensures c.index_mut.ensures.value c.lower_position-position.ensures
