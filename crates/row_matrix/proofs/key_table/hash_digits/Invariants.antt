use Rattle.std.proofs.Common.{take, ◌≡◌}
use Rattle.std.specs.Prelude.{fold}
use Rattle.row_matrix.specs.Hashes.{hash_step}
use Rattle.row_matrix.proofs.key_table.hash_digits.Given as goal

abbrev pub invariant-loop-exponent : goal.invariant-loop-exponent
invariant-loop-exponent l = l.hash ≡ fold (hash_step l.base) l.start (take l.exponent-index l.exponents)
