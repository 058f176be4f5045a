use Rattle.std.proofs.Common.{append-nil, sym, ◌+◌}
use Rattle.constant_rows.proofs.Adding.{one_zero_more}
use Rattle.constant_rows.proofs.sums.widen.Goals as goal

pub loop-sums-init : goal.loop-sums-init
loop-sums-init c = (0, sym (append-nil c.args.sums.now.items))

pub loop-sums-preserved : goal.loop-sums-preserved
loop-sums-preserved c =
    let before = c.loop-sums.invariant in
    (before.0 + 1, one_zero_more c.args.sums.now.items c.loop-sums.sums.items c.push.new.self.items before.0 before.1 c.in_ok-push.ensures.items)
