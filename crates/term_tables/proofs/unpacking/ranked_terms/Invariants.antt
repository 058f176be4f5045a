use Rattle.std.proofs.Common.{length, ℕ, ◌++◌, ◌+◌, ◌<◌, ◌≡◌}
use Rattle.formal_sums.specs.FormalSums.{Each, IsSame}
use Rattle.term_tables.specs.Tables.{ranked_sum, table_sum}
use Rattle.term_tables.proofs.unpacking.ranked_terms.Given as goal

abbrev pub invariant-loop-sum : goal.invariant-loop-sum
invariant-loop-sum l = record {
  reach : l.k + length l.rest ≡ length l.sums;
  residues : Each (λ t. t.2 < l.ring.modulus.value) l.terms.items;
  sum : (n : ℕ) → IsSame l.ring.modulus.value (ranked_sum n l.bases l.terms.items ++ table_sum n l.bases l.k l.rest) (table_sum n l.bases 0 l.sums);
}

abbrev pub decreases-loop-sum : goal.decreases-loop-sum
decreases-loop-sum l = length l.rest
