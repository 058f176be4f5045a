use Rattle.std.proofs.Common.{arith, ◌^◌}
use Rattle.lane_kernels.proofs.Done.{below_in_chunk}
use Rattle.lane_kernels.proofs.adding.add_eight.Goals as goal

pub add_products-sums-requires-clause-numbers : goal.add_products-sums-requires-clause-numbers
add_products-sums-requires-clause-numbers c = below_in_chunk (2 ^ 63) c.args.at c.args.numbers.now c.requires.room c.requires.numbers

pub add_products-sums-requires-clause-residues : goal.add_products-sums-requires-clause-residues
add_products-sums-requires-clause-residues c =
    below_in_chunk (2 ^ 31) c.args.at c.args.residues.now (omega (arith, c.requires.room, c.requires.count)) (λ i _ lt. c.requires.residues i lt)
