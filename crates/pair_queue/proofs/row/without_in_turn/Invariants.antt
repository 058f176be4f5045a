use Rattle.pair_queue.specs.Rows.{NoneWithout, flag_of}
use Rattle.pair_queue.proofs.row.without_in_turn.Given as goal

abbrev pub invariant-loop-i : goal.invariant-loop-i
invariant-loop-i l = NoneWithout (flag_of l.mine) (flag_of l.theirs) l.from l.i
