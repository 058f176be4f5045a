use Rattle.std.proofs.Common.{take}
use Rattle.numbered_sums.specs.KeySums.{AddsProduct, AreSmall, AreTouched}
use Rattle.numbered_sums.proofs.sums.add_multiple.Given as goal

abbrev pub invariant-loop-entry : goal.invariant-loop-entry
invariant-loop-entry l = record {
  adds : AddsProduct l.modulus.value l.factor (take l.entry-index l.entries) l.fn.sums l.sums;
  small : AreSmall l.sums;
  marked : AreTouched l.touched.items l.sums;
}
