use Rattle.std.proofs.Common.{take, ℕ, ◌≡◌}
use Rattle.term_lists.specs.Vectors.{AreTermsOver, sum_of}
use Rattle.term_tables.specs.Tables.{ranked_sum}
use Rattle.term_tables.proofs.unpacking.unpacked_terms.Given as goal

abbrev pub invariant-loop-term : goal.invariant-loop-term
invariant-loop-term l = record {
  over : AreTermsOver l.ring l.unpacked.items;
  sum : (n : ℕ) → sum_of n l.unpacked.items ≡ ranked_sum n l.bases (take l.term-index l.terms);
}
