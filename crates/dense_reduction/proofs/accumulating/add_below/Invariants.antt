use Rattle.std.proofs.Common.{take}
use Rattle.dense_reduction.specs.Dense.{AddsMultiple, IsDense}
use Rattle.dense_reduction.proofs.accumulating.add_below.Given as goal

abbrev pub invariant-loop-entry : goal.invariant-loop-entry
invariant-loop-entry l = record {
  adds : AddsMultiple l.modulus.value l.factor (take l.entry-index l.entries) l.fn.acc l.acc;
  small : IsDense l.limit l.acc;
}
