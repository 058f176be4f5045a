use Rattle.std.proofs.Common.{length}
use Rattle.hilbert_series.proofs.Loops.{IsWith}
use Rattle.hilbert_series.proofs.generators.with_generator.Given as goal

abbrev pub invariant-loop-generator : goal.invariant-loop-generator
invariant-loop-generator l = IsWith (length l.weights) l.weights l.p l.list l.all.items l.generator-index
