use Rattle.std.proofs.Common.{get_or, length, ℕ, ◌%◌, ◌-◌, ◌<◌, ◌≡◌}
use Rattle.dense_reduction.proofs.eights.negate_all.Given as goal

abbrev pub invariant-loop-j : goal.invariant-loop-j
invariant-loop-j l = record {
  count : length l.factors ≡ 8;
  negative : (k : ℕ) → k < l.j → get_or l.factors k 0 ≡ (l.modulus.value - get_or l.residues k 0) % l.modulus.value;
}
