use Rattle.std.proofs.Common.{get_or, length, ℕ, ◌%◌, ◌<◌, ◌≡◌}
use Rattle.order_change.proofs.sums.Sums.reduced.Given as goal

abbrev pub invariant-loop-k : goal.invariant-loop-k
invariant-loop-k l = record {
  long : length l.residues.items ≡ l.k;
  same : (j : ℕ) → j < l.k → get_or l.residues.items j 0 ≡ get_or l.self j 0 % l.modulus.value;
}
