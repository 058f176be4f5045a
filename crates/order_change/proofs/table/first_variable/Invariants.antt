use Rattle.std.proofs.Common.{get_or, ℕ, ◌<◌, ◌≡◌}
use Rattle.order_change.proofs.table.first_variable.Given as goal

abbrev pub invariant-loop-j : goal.invariant-loop-j
invariant-loop-j l = (v : ℕ) → v < l.j → get_or l.m.exponents v 0 ≡ 0
