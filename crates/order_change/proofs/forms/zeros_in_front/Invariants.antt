use Rattle.std.proofs.Common.{get_or, ℕ, ◌<◌, ◌≡◌}
use Rattle.order_change.proofs.forms.zeros_in_front.Given as goal

abbrev pub invariant-loop-k : goal.invariant-loop-k
invariant-loop-k l = (j : ℕ) → j < l.k → get_or l.residues j 0 ≡ 0
