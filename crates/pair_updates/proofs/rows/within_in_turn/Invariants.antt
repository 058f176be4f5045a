use Rattle.pair_updates.specs.Rows.{EachHasMissing}
use Rattle.pair_updates.proofs.rows.within_in_turn.Given as goal

abbrev pub invariant-loop-i : goal.invariant-loop-i
invariant-loop-i l = EachHasMissing l.words l.missing l.from l.i
