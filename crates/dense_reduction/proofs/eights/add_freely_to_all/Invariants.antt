use Rattle.std.proofs.Common.{drop, take}
use Rattle.dense_reduction.proofs.EightSums.{AreAllAdded, AreAllFree}
use Rattle.dense_reduction.proofs.eights.add_freely_to_all.Given as goal

abbrev pub invariant-loop-entry : goal.invariant-loop-entry
invariant-loop-entry l = record {
  added : AreAllAdded l.modulus.value l.factors (take l.entry-index l.entries) l.fn.numbers l.numbers;
  free : AreAllFree l.modulus.value l._limit (drop l.entry-index l.entries) l.numbers;
}
