use Rattle.std.proofs.Common.{take, ◌++◌}
use Rattle.std.specs.List.Sorted.{IsPermutation}
use Rattle.row_reduce.proofs.helpers.deal.Given as goal

abbrev pub invariant-loop-i : goal.invariant-loop-i
invariant-loop-i l = IsPermutation (take l.i l.mine) (l.dealt.others.items ++ l.dealt.last.items)
