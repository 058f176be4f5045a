use Rattle.std.proofs.Common.{get_or, ℕ, ◌+◌, ◌-◌, ◌≡◌}
use Rattle.std.specs.Vec.{vec_len}
use Rattle.constant_passes.proofs.clearing.number_row.Given as goal

abbrev pub invariant-loop-numbers : goal.invariant-loop-numbers
invariant-loop-numbers l = (q : ℕ) → get_or l.numbers.items q 18446744073709551615 ≡ get_or l.fn.numbers.items q 18446744073709551615

abbrev pub decreases-loop-numbers : goal.decreases-loop-numbers
decreases-loop-numbers l = l.row + 1 - vec_len l.numbers
