use Rattle.std.proofs.Common.{arith, ◌*◌, ◌+◌}
use Rattle.lane_kernels.proofs.Products.{sums_done}
use Rattle.lane_kernels.proofs.adding.axpy_dense.Goals as goal

pub loop-turn-preserved : goal.loop-turn-preserved
loop-turn-preserved c =
    let turn = c.loop-turn.turn in
    sums_done c.args.c c.from-factor.result (8 * turn) (8 * (turn + 1)) c.args.row.now c.args.acc.now c.loop-turn.acc c.add_eight.new.numbers
    c.from-factor.ensures c.requires.count (omega arith) (omega arith) c.add_eight.ensures c.loop-turn.invariant
