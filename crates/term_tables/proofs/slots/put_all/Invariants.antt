use Rattle.std.proofs.Common.{List, length, ℕ, ◌++◌}
use Rattle.residues.specs.Residues.{IsCongruent}
use Rattle.formal_sums.specs.FormalSums.{IsSame}
use Rattle.term_tables.specs.Digits.{packed_sum}
use Rattle.term_tables.proofs.slots.put_all.Given as goal

abbrev pub invariant-loop-slot : goal.invariant-loop-slot
invariant-loop-slot l = record {
  sum : (n p : ℕ) (bs : List (ℕ × ℕ)) → IsCongruent p l.square 0
      → IsSame p (packed_sum n bs l.larger.items ++ packed_sum n bs l.rest) (packed_sum n bs l.slots ++ packed_sum n bs l.initial.larger.items);
}

abbrev pub decreases-loop-slot : goal.decreases-loop-slot
decreases-loop-slot l = length l.rest
