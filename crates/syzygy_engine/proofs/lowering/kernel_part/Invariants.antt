use Rattle.syzygy_engine.proofs.KernelSteps.{IsShownTo}
use Rattle.syzygy_engine.proofs.lowering.kernel_part.Given as goal

abbrev pub invariant-loop-v : goal.invariant-loop-v
invariant-loop-v l = IsShownTo l.ring l.position l.fn.basis l.kernel.items l.v-iterator.rest.items
