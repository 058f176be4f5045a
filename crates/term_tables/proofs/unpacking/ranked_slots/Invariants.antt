use Rattle.std.proofs.Common.{length, ℕ, ◌++◌, ◌<◌}
use Rattle.formal_sums.specs.FormalSums.{Each, IsSame}
use Rattle.term_tables.specs.Digits.{packed_sum}
use Rattle.term_tables.specs.Tables.{ranked_sum}
use Rattle.term_tables.proofs.unpacking.ranked_slots.Given as goal

abbrev pub invariant-loop-slot : goal.invariant-loop-slot
invariant-loop-slot l = record {
  residues : Each (λ t. t.2 < l.ring.modulus.value) l.terms.items;
  sum : (n : ℕ) → IsSame l.ring.modulus.value (ranked_sum n l.bases l.terms.items ++ packed_sum n l.bases l.rest) (packed_sum n l.bases l.slots);
}

abbrev pub decreases-loop-slot : goal.decreases-loop-slot
decreases-loop-slot l = length l.rest
