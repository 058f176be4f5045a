use Rattle.std.proofs.Common.{take, ℕ, ◌<◌, ◌≡◌}
use Rattle.formal_sums.specs.FormalSums.{Each}
use Rattle.term_lists.specs.Vectors.{sum_of}
use Rattle.term_tables.specs.Digits.{ArePacked, packed_sum}
use Rattle.term_tables.proofs.packing.packed_terms.Given as goal

abbrev pub invariant-loop-term : goal.invariant-loop-term
invariant-loop-term l = record {
  sum : (n : ℕ) → packed_sum n l.bases l.packed.items ≡ sum_of n (take l.term-index l.terms);
  packed : (p : ℕ) → Each (λ t. t.1 < p) l.terms → ArePacked l.is_left l.bases p l.packed.items;
}
