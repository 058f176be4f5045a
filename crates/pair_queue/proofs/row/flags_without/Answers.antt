use Rattle.pair_queue.proofs.Words.{bits_without}
use Rattle.pair_queue.proofs.row.flags_without.Goals as goal

pub returns : goal.returns
returns c = bits_without c.args.mine c.args.theirs c.ranges.theirs.fits
