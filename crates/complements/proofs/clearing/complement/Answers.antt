use Rattle.std.proofs.Common.{}
use Rattle.complements.proofs.Plus.{plus_more, plus_nothing}
use Rattle.complements.proofs.clearing.complement.Goals as goal

pub loop-level-init : goal.loop-level-init
loop-level-init c = record {
  sum = plus_nothing c.args.ring.now c.args.columns.now c.args.v;
  vector = c.requires.vector;
  cleared = c.requires.cleared;
}

pub loop-level-preserved : goal.loop-level-preserved
loop-level-preserved c = record {
  sum = plus_more c.args.ring.now c.args.columns.now c.args.v c.loop-level.out c.in-Ok.sum c.loop-level.invariant.sum c.in-Ok.ensures.sum;
  vector = c.in-Ok.ensures.vector;
  cleared = c.in-Ok.ensures.cleared;
}
