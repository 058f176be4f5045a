use Rattle.std.proofs.Common.{length, sum, ◌*◌, ◌-◌}
use Rattle.order_change.specs.Tables.{IsFillingOver}
use Rattle.order_change.proofs.table.product_forms.Given as goal

abbrev pub invariant-loop-turns : goal.invariant-loop-turns
invariant-loop-turns l = IsFillingOver (length l.ring.weights) l.ring l.basis l.standard l.turns l.table

abbrev pub decreases-loop-turns : goal.decreases-loop-turns
decreases-loop-turns l = length l.turns * length l.standard - sum l.turns
