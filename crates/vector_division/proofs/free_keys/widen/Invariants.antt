use Rattle.std.proofs.Common.{length, ◌<◌}
use Rattle.vector_division.specs.Divisors.{HaveNumbers}
use Rattle.vector_division.proofs.free_keys.widen.Given as goal

abbrev pub invariant-loop-i : goal.invariant-loop-i
invariant-loop-i l = record {
  numbers : HaveNumbers (length l.keys) l.wide.items;
  some : 8 < length l.wide.items;
}
