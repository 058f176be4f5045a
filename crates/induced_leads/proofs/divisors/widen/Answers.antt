use Rattle.std.proofs.Common.{arith}
use Rattle.induced_leads.proofs.Finding.{widened}
use Rattle.induced_leads.proofs.divisors.widen.Goals as goal

pub returns : goal.returns
returns c =
    widened c.args.spans.now.items c.loop-spans.spans.items c.args.position c.index-span.result.now c.args.more record { from = c.min.result; to = c.max.result } c.loop-spans.invariant
    (omega arith) c.index-span.ensures c.min.ensures c.max.ensures
