use Rattle.std.proofs.Common.{length, ◌≡◌}
use Rattle.echelon_checks.proofs.tests.columns_of.Given as goal

abbrev pub invariant-loop-position : goal.invariant-loop-position
invariant-loop-position l = length l.keys.items ≡ l.position
