use Rattle.std.proofs.Common.{get_or, length, ℕ, ◌<◌, ◌≡◌}
use Rattle.dense_reduction.proofs.eights.take_residues.Given as goal

abbrev pub invariant-loop-j : goal.invariant-loop-j
invariant-loop-j l = record {
  count : length l.residues ≡ 8;
  same : (k : ℕ) → k < l.j → get_or l.residues k 0 ≡ get_or l.left k 0;
}
