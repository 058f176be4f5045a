use Rattle.std.proofs.Common.{arith, ◌∙◌}
use Rattle.minimal_betti.proofs.SplitColumns.{removed_is, removed_past}
use Rattle.minimal_betti.proofs.leaving.drop_degree.Goals as goal

pub returns-then-at-len : goal.returns-then-at-len
returns-then-at-len c = c.remove.ensures.items ∙ removed_is c.args.degrees.now.items c.args.at (omega arith)

pub returns-else-at-len : goal.returns-else-at-len
returns-else-at-len c = removed_past c.args.degrees.now.items c.args.at (omega arith)
