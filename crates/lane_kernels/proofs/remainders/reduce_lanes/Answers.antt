use Rattle.std.proofs.Common.{arith, ◌*◌, ◌+◌, ◌∙◌}
use Rattle.lane_kernels.proofs.LaneMaps.{remainders_done}
use Rattle.lane_kernels.proofs.remainders.reduce_lanes.Goals as goal

pub loop-turn-preserved : goal.loop-turn-preserved
loop-turn-preserved c =
    let turn = c.loop-turn.turn in
    remainders_done c.args.p.now.value c.from-modulus.result (8 * turn) (8 * (turn + 1)) c.args.acc.now c.loop-turn.acc c.reduce_eight.new.numbers
    (c.from-modulus.ensures ∙ c.value.ensures) (omega arith) (omega arith) c.reduce_eight.ensures c.loop-turn.invariant
