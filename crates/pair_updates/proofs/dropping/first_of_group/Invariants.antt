use Rattle.std.proofs.Common.{get_or, ℕ, ◌<◌}
use Rattle.basis_steps.specs.Updates.{IsOfGroup}
use Rattle.pair_updates.specs.Leads.{sums_shown}
use Rattle.pair_updates.proofs.dropping.first_of_group.Given as goal

abbrev pub invariant-loop-k : goal.invariant-loop-k
invariant-loop-k l = (x : ℕ) → x < l.k → IsOfGroup (sums_shown l.leads) l.pair.j l.pair.i (get_or l.left x 0) → ⊥
