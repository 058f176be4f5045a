use Rattle.std.proofs.Common.{take, ◌≡◌}
use Rattle.session_values.proofs.kept_bases.is_same_list.Given as goal

abbrev pub invariant-loop-i : goal.invariant-loop-i
invariant-loop-i l = take l.i l.left ≡ take l.i l.right
