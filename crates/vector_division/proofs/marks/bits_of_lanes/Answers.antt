use Rattle.std.proofs.Common.{arith}
use Rattle.vector_division.proofs.Lanes.{bits_of_mask, small_mask}
use Rattle.vector_division.proofs.marks.bits_of_lanes.Goals as goal

pub offset_bounds-exponents-at : goal.offset_bounds-exponents-at
offset_bounds-exponents-at g c = omega (arith, c.requires.within)

pub bounds-exponents-at : goal.bounds-exponents-at
bounds-exponents-at g c = omega (arith, c.requires.within)

pub returns-clause-bits : goal.returns-clause-bits
returns-clause-bits g c = bits_of_mask c.args.exponents.now c.args.at g.row.N c.requires.lanes.1 c.requires.within

pub returns-clause-small : goal.returns-clause-small
returns-clause-small g c = small_mask c.args.exponents.now c.args.at g.row.N c.requires.lanes.1 c.requires.within
