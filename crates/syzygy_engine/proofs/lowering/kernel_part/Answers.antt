use Rattle.syzygy_engine.proofs.KernelSteps.{one_more_shown}
use Rattle.syzygy_engine.proofs.lowering.kernel_part.Goals as goal

pub loop-v-preserved : goal.loop-v-preserved
loop-v-preserved c =
    one_more_shown c.args.ring.now c.args.position c.args.basis c.loop-v.kernel.items c.take_member.new.kernel.items c.loop-v.v-iterator.rest.items c.in-Some.v _ c.loop-v.invariant c.in-Some.ensures.steps.0
    (c.in_ok-take_member.ensures.vectors c.loop-v.invariant.vectors) (c.in_ok-take_member.ensures.stand _ c.loop-v.invariant.stand)
