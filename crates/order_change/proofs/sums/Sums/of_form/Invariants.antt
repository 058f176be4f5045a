use Rattle.std.proofs.Common.{get_or, length, ℕ, ◌<◌, ◌≡◌}
use Rattle.order_change.proofs.sums.Sums.of_form.Given as goal

abbrev pub invariant-loop-k : goal.invariant-loop-k
invariant-loop-k l = record {
  long : length l.sums ≡ length l.form;
  same : (j : ℕ) → j < l.k → get_or l.sums j 0 ≡ get_or l.form j 0;
}
