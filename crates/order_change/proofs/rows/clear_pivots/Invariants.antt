use Rattle.order_change.proofs.Clearing.{IsClearing}
use Rattle.order_change.proofs.rows.clear_pivots.Given as goal

abbrev pub invariant-loop-row : goal.invariant-loop-row
invariant-loop-row l = IsClearing l.modulus.value l.rows l.initial.form l.initial.combination l.row-index l.form l.combination
