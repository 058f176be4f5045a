use Rattle.std.proofs.Common.{take, ◌++◌, ◌≡◌}
use Rattle.module_vectors.proofs.front_variable.followed.Given as goal

abbrev pub invariant-loop-term : goal.invariant-loop-term
invariant-loop-term l = l.all.items ≡ l.fn.first.items ++ take l.term-index l.more
