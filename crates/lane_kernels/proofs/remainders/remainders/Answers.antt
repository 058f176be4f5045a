use Rattle.std.proofs.Common.{ap, map, sym, ◌∙◌}
use Rattle.lane_kernels.proofs.Barrett.{less_once}
use Rattle.lane_kernels.proofs.LaneMaps.{remainders_are}
use Rattle.lane_kernels.proofs.remainders.remainders.Goals as goal

pub returns : goal.returns
returns c =
    let p = c.args.modulus in
    c.subtract_once-2.ensures ∙ ap (map (less_once p)) c.subtract_once.ensures
    ∙ remainders_are p c.args.numbers c.rests-left.result (c.rests-left.ensures.count ∙ sym c.fits-numbers.0) c.rests-left.ensures.rests
