use Rattle.std.proofs.Common.{reverse}
use Rattle.poly_value.proofs.Steps.{added}
use Rattle.poly_value.proofs.stack.add_top.Goals as goal

pub returns : goal.returns
returns g c =
    added (g.F.Frame.over c.args.frame.now) c.args.line.now (reverse c.args.stack.now.items) (reverse c.take_top.new.stack.items) (reverse c.take_top-2.new.stack.items) (reverse c.put_top.new.stack.items)
    c.in-Some-take_top.left c.in-Some.right c.in_ok-sum.sum c.put_top.result c.in-Some.ensures c.in-Some-take_top.ensures c.in_ok-sum.ensures c.put_top.ensures
