use Rattle.std.proofs.Common.{reverse}
use Rattle.poly_value.proofs.Steps.{negated}
use Rattle.poly_value.proofs.stack.negate_top.Goals as goal

pub returns : goal.returns
returns g c =
    negated (g.F.Frame.over c.args.frame.now) c.args.line.now (reverse c.args.stack.now.items) (reverse c.take_top.new.stack.items) (reverse c.put_top.new.stack.items)
    c.in-Some.operand _ c.put_top.result c.in-Some.ensures c.oppose.ensures c.put_top.ensures
