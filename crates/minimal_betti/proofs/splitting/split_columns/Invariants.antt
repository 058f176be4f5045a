use Rattle.minimal_betti.proofs.SplitColumns.{AreSplitTo}
use Rattle.minimal_betti.proofs.splitting.split_columns.Given as goal

abbrev pub invariant-loop-i : goal.invariant-loop-i
invariant-loop-i l = AreSplitTo l.ring l.inverse l.at l.columns l.i l.others.items
