use Rattle.std.proofs.Common.{length, ◌++◌, ◌≡◌}
use Rattle.term_tables.specs.Digits.{digits}
use Rattle.term_tables.proofs.unpacking.put_digits.Given as goal

abbrev pub invariant-loop-b : goal.invariant-loop-b
invariant-loop-b l = l.exponents.items ++ digits l.rest l.left ≡ digits l.bases l.key

abbrev pub decreases-loop-b : goal.decreases-loop-b
decreases-loop-b l = length l.rest
