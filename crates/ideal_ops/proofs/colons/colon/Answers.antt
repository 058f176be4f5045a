use Rattle.std.proofs.Common.{arith, length, ◌≡◌}
use Rattle.syzygy_engine.proofs.Counted.{one_run}
use Rattle.ideal_ops.proofs.Stacked.{stops_of_none}
use Rattle.ideal_ops.proofs.colons.colon.Goals as goal

pub returns-then-len-eq0-clause-stop : goal.returns-then-len-eq0-clause-stop
returns-then-len-eq0-clause-stop g c =
    let by = c.args.by.now in
    let e : length by ≡ 0 = omega arith in
    stops_of_none c.args.ring.now c.args.rank c.args.list.now by _ _ _ _ e c.all_polynomials.result c.all_polynomials.ensures.stop

pub returns-then-len-eq0-clause-runs : goal.returns-then-len-eq0-clause-runs
returns-then-len-eq0-clause-runs g c = one_run c.args.ring.now _ _ c.all_polynomials.ensures.runs
