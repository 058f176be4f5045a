use Rattle.std.proofs.Common.{arith, refl, ◌-◌}
use Rattle.syzygy_engine.proofs.LoweredTerms.{lower_step}
use Rattle.syzygy_engine.proofs.lowering.lower_terms.Goals as goal

pub loop-i-preserved : goal.loop-i-preserved
loop-i-preserved c =
    lower_step c.args.by c.args.terms.now.items c.loop-i.terms.items c.loop-i.i (c.index.result.now.0.position - c.args.by) c.index.result.now c.index_mut.result.now (omega arith) c.loop-i.invariant c.index.ensures c.index_mut.ensures.value refl
