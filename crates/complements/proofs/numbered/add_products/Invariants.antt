use Rattle.std.proofs.Common.{}
use Rattle.complements.specs.Combining.{AreGathered}
use Rattle.complements.proofs.numbered.add_products.Given as goal

abbrev pub invariant-loop-factor : goal.invariant-loop-factor
invariant-loop-factor l = AreGathered l.ring l.columns l.accumulator
