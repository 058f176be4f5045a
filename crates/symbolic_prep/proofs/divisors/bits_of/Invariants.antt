use Rattle.std.proofs.Common.{length, ◌≡◌, ◌≤◌}
use Rattle.std.specs.Vec.{vec_capacity}
use Rattle.symbolic_prep.proofs.Dividing.{AreBitsTo}
use Rattle.symbolic_prep.proofs.divisors.bits_of.Given as goal

abbrev pub invariant-loop-i : goal.invariant-loop-i
invariant-loop-i g l = record {
  count : length l.bits.items ≡ l.i;
  room : length l.divisors ≤ vec_capacity l.bits;
  listed : AreBitsTo (g.L.Vectors.listed l.list) l.divisors l.bits.items l.i;
}
