use Rattle.std.proofs.Common.{length, map, ◌-◌, ◌≡◌, ◌≤◌}
use Rattle.vector_division.specs.Divisors.{AreLeastFrom, IsLeastFrom, indexed}
use Rattle.vector_division.proofs.divisors.set_least.Given as goal

abbrev pub invariant-loop-k : goal.invariant-loop-k
invariant-loop-k g l =
    let list = g.L.Vectors.listed l.list in
    record {
      kept : map indexed l.divisors.items ≡ map indexed l.fn.divisors.items;
      count : l.count ≤ length l.divisors.items;
      below : IsLeastFrom list l.divisors.items (l.count - l.k) l.least;
      each : AreLeastFrom list l.divisors.items (l.count - l.k);
    }
