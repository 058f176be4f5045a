use Rattle.std.proofs.Common.{length, ◌≡◌, ◌≤◌}
use Rattle.std.specs.Vec.{vec_capacity, vec_len}
use Rattle.symbolic_prep.proofs.Dividing.{AreListed}
use Rattle.symbolic_prep.proofs.divisors.list_divisors.Given as goal

abbrev pub invariant-loop-i : goal.invariant-loop-i
invariant-loop-i g l = record {
  count : vec_len l.divisors ≡ l.i;
  room : length (g.L.Vectors.listed l.list) ≤ vec_capacity l.divisors;
  listed : AreListed (g.L.Vectors.listed l.list) l.divisors.items l.i;
}
