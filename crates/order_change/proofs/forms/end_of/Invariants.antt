use Rattle.std.proofs.Common.{get_or, ℕ, ◌<◌, ◌≡◌, ◌≤◌}
use Rattle.order_change.proofs.forms.end_of.Given as goal

abbrev pub invariant-loop-k : goal.invariant-loop-k
invariant-loop-k l = record {
  within : l.end ≤ l.k;
  behind : (j : ℕ) → l.end ≤ j → j < l.k → get_or l.residues j 0 ≡ 0;
}
