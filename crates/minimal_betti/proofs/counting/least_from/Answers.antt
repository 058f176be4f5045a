use Rattle.std.proofs.Common.{arith, get_or, length, ◌<◌}
use Rattle.std.proofs.Math.Facts.{Fits-lt-pow}
use Rattle.std.proofs.lemmas.List.{get_or_default}
use Rattle.minimal_betti.proofs.Growing.{least_more}
use Rattle.minimal_betti.proofs.counting.least_from.Goals as goal

pub loop-d-preserved : goal.loop-d-preserved
loop-d-preserved c =
    let xs = c.args.degrees.now in
    let i = c.loop-d.d-index in
    let lt : i < length xs = omega arith in
    least_more c.args.from c.loop-d.least c.lower-least.result xs i (get_or xs i 0) c.loop-d.invariant lt (get_or_default xs i 0 (get_or xs i 0) lt)
    (Fits-lt-pow (c.type_inv.degrees i)) c.lower-least.ensures
