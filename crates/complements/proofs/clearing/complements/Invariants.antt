use Rattle.std.proofs.Common.{}
use Rattle.complements.specs.Combining.{HasZeroSums}
use Rattle.complements.specs.Complements.{AreComplements}
use Rattle.complements.proofs.clearing.complements.Given as goal

abbrev pub invariant-loop-v : goal.invariant-loop-v
invariant-loop-v l = record {
  all : AreComplements l.ring l.columns l.vectors l.v-index l.all.items;
  cleared : HasZeroSums l.ring l.columns l.accumulator;
}
