use Rattle.std.proofs.Common.{}
use Rattle.complements.proofs.Plus.{plus_sum}
use Rattle.complements.proofs.clearing.with_combination.Goals as goal

pub returns-clause-sum : goal.returns-clause-sum
returns-clause-sum c =
    plus_sum c.args.ring.now c.args.columns.now c.args.v c.in_ok-sum.sum c.add.new.self c.in_ok-sum.ensures.sum c.in_ok-add.ensures.sum
