use Rattle.std.proofs.Common.{◌≤◌}
use Rattle.sparse_poly.specs.PowerParts.{IsPowerOver}
use Rattle.sparse_poly.proofs.power.multiplied_on.Given as goal

abbrev pub invariant-loop : goal.invariant-loop
invariant-loop g l = record {
  power : IsPowerOver (g.F.Frame.over l.frame) (g.F.Frame.compare l.frame) l.p l.counter l.reached;
  low : l.counter ≤ l.n;
}
