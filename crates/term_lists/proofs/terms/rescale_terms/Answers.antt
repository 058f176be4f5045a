use Rattle.std.proofs.Common.{arith}
use Rattle.term_lists.proofs.Rescaling.{rescale_step}
use Rattle.term_lists.proofs.terms.rescale_terms.Goals as goal

pub loop-i-preserved : goal.loop-i-preserved
loop-i-preserved c = rescale_step c.args.modulus.now.value c.args.c c.args.terms.now.items c.loop-i.terms.items c.loop-i.i c.mul-residue.result c.index.result.now c.index_mut.result.now (omega arith) c.loop-i.invariant c.index.ensures c.index_mut.ensures.value c.mul-residue.ensures.value
