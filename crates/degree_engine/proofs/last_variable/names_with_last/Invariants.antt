use Rattle.std.proofs.Common.{length, ◌≡◌}
use Rattle.degree_engine.proofs.last_variable.names_with_last.Given as goal

abbrev pub invariant-loop-name : goal.invariant-loop-name
invariant-loop-name l = length l.more.items ≡ l.name-index
