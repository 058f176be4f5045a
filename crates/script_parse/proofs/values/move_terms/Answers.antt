use Rattle.script_parse.proofs.Working.{move_step}
use Rattle.script_parse.proofs.values.move_terms.Goals as goal

pub loop-i-preserved : goal.loop-i-preserved
loop-i-preserved c = move_step c.args.position c.args.terms.now.items c.loop-i.terms.items c.loop-i.i c.index_mut.result.now (omega Rattle.std.proofs.Common.arith) c.loop-i.invariant c.index_mut.ensures.value
