use Rattle.std.proofs.Common.{length, ◌≡◌, ◌≤◌}
use Rattle.std.specs.Vec.{vec_capacity}
use Rattle.symbolic_prep.proofs.Dividing.{AreUpToLeadsTo}
use Rattle.symbolic_prep.proofs.divisors.degrees_of.Given as goal

abbrev pub invariant-loop-i : goal.invariant-loop-i
invariant-loop-i g l = record {
  count : length l.degrees.items ≡ l.i;
  room : length l.divisors ≤ vec_capacity l.degrees;
  listed : AreUpToLeadsTo (g.L.Vectors.listed l.list) l.divisors l.degrees.items l.i;
}
