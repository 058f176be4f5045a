use Rattle.std.proofs.Common.{take, ◌≡◌, ◌++◌}
use Rattle.hilbert_series.proofs.parts.push_copies.Given as goal

abbrev pub invariant-loop-m : goal.invariant-loop-m
invariant-loop-m l = l.to.items ≡ l.initial.to.items ++ take l.m-index l.list
