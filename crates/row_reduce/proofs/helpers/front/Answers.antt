use Rattle.std.proofs.Common.{◌<◌}
use Rattle.row_reduce.proofs.Lowered.{Each_range}
use Rattle.row_reduce.proofs.helpers.front.Goals as goal

pub returns : goal.returns
returns c n known = Each_range (λ m. m < n) c.args.numbers.now 0 c.min-end.result known
