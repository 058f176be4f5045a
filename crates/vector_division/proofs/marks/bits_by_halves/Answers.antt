use Rattle.std.proofs.Common.{length, refl, ◌-◌}
use Rattle.vector_division.proofs.Lanes.{bits_of_halves}
use Rattle.vector_division.proofs.marks.bits_by_halves.Goals as goal

pub returns : goal.returns
returns g c =
    let m = c.args.exponents.now in
    let behind = c.bits_of_lanes-2.ensures in
    bits_of_halves m g.row.N c.bits_of_lanes.result c.bits_of_lanes-2.result (length m - g.row.N) c.requires.lanes.1 refl c.requires.least c.requires.most
    c.bits_of_lanes.ensures.bits behind.bits behind.small
