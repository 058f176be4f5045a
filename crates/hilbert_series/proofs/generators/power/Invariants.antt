use Rattle.std.proofs.Common.{length, ◌≡◌}
use Rattle.hilbert_series.proofs.generators.power.Given as goal

abbrev pub invariant-loop-i : goal.invariant-loop-i
invariant-loop-i l = length l.exponents.items ≡ l.i
