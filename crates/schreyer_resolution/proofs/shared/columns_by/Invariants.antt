use Rattle.std.proofs.Common.{length, ◌≡◌}
use Rattle.numbered_sums.specs.KeySums.{AreZeroSums}
use Rattle.schreyer_resolution.specs.Sharing.{AreColumnsMade}
use Rattle.schreyer_resolution.proofs.shared.columns_by.Given as goal

abbrev pub invariant-loop-i : goal.invariant-loop-i
invariant-loop-i l = record {
  made : AreColumnsMade l.ring l.columns l.induced l.keys l.i l.next.items;
  count : length l.work.sums.items ≡ length l.products.numbers;
  idle : AreZeroSums l.work.sums.items;
}
