use Rattle.std.proofs.Common.{take}
use Rattle.dense_reduction.proofs.EightSums.{AreAllAdded}
use Rattle.dense_reduction.specs.Eights.{AreDense}
use Rattle.dense_reduction.proofs.eights.add_below_to_all.Given as goal

abbrev pub invariant-loop-entry : goal.invariant-loop-entry
invariant-loop-entry l = record {
  added : AreAllAdded l.modulus.value l.factors (take l.entry-index l.entries) l.fn.numbers l.numbers;
  small : AreDense l.limit l.numbers;
}
