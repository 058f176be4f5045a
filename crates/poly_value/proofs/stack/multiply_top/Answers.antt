use Rattle.std.proofs.Common.{reverse}
use Rattle.poly_value.proofs.Steps.{product_fits}
use Rattle.poly_value.proofs.stack.multiply_top.Goals as goal

pub product_part-requires-clause-fits : goal.product_part-requires-clause-fits
product_part-requires-clause-fits g c =
    product_fits (g.F.Frame.over c.args.frame.now) c.args.line.now (reverse c.args.stack.now.items) (reverse c.take_top.new.stack.items) (reverse c.take_top-2.new.stack.items)
    c.in-Some.right c.in-Some-take_top.left c.requires c.in-Some.ensures c.in-Some-take_top.ensures
