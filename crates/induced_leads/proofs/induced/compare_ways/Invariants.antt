use Rattle.std.proofs.Common.{get_or, ℕ, ◌<◌, ◌≡◌}
use Rattle.induced_leads.proofs.induced.compare_ways.Given as goal

abbrev pub invariant-loop-k : goal.invariant-loop-k
invariant-loop-k l = (j : ℕ) → j < l.k → get_or l.left j 0 ≡ get_or l.right j 0
