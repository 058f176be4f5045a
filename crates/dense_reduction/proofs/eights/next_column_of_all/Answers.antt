use Rattle.std.proofs.Common.{arith}
use Rattle.dense_reduction.proofs.EightSums.{zeros_more}
use Rattle.dense_reduction.proofs.eights.next_column_of_all.Goals as goal

pub loop-c-preserved : goal.loop-c-preserved
loop-c-preserved c =
    zeros_more c.args.from c.loop-c.c c.args.numbers.now (omega arith) (c.are_zero.ensures c.if-not-are_zero.false) c.loop-c.invariant
