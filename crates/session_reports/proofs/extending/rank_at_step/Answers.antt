use Rattle.std.proofs.Common.{arith, length, refl, ◌-◌, ◌<◌, ◌≤◌}
use Rattle.session_reports.proofs.Extended.{rank_past, rank_there}
use Rattle.session_reports.proofs.extending.rank_at_step.Goals as goal

pub returns-then-before-maps : goal.returns-then-before-maps
returns-then-before-maps c =
    let past : length c.args.maps.now ≤ c.args.step - 1 = omega (arith, c.if-before-maps.true) in
    rank_past c.args.rank c.args.maps.now c.args.step c.if-step-eq0.false past

pub returns : goal.returns
returns c =
    let within : c.args.step - 1 < length c.args.maps.now = omega (arith, c.if-before-maps.false) in
    rank_there c.args.rank c.args.maps.now c.args.step (c.args.step - 1) c.len.result c.index-maps-before.result c.if-step-eq0.false refl within
    c.len.ensures
