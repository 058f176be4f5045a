use Rattle.std.proofs.Common.{None, get_or, ℕ, ◌≡◌}
use Rattle.core_histories.proofs.play.no_outcomes.Given as goal

abbrev pub invariant-loop : goal.invariant-loop
invariant-loop l = (w : ℕ) → get_or l.waiting.items w None ≡ None
