use Rattle.lane_kernels.proofs.LaneMaps.{once_are}
use Rattle.lane_kernels.proofs.remainders.subtract_once.Goals as goal

pub returns : goal.returns
returns c = once_are c.args.subtrahend 8 c.args.numbers c.fits-numbers.0 c.requires.subtrahend.1 c.requires.subtrahend.0 c.fits-numbers.1
