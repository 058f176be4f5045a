use Rattle.std.proofs.Common.{get_or, length, ℕ, ◌<◌, ◌≡◌}
use Rattle.dense_reduction.proofs.EightSums.{IsSumBelow}
use Rattle.dense_reduction.proofs.eights.add_below_limit.Given as goal

abbrev pub invariant-loop-j : goal.invariant-loop-j
invariant-loop-j l = record {
  count : length l.sums ≡ 8;
  sums : (k : ℕ) → k < l.j → IsSumBelow l._modulus.value l.limit (get_or l.numbers k 0) (get_or l.factors k 0) l.residue (get_or l.sums k 0);
}
