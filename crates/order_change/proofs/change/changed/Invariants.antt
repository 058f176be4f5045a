use Rattle.std.proofs.Common.{length, sum, ◌*◌, ◌-◌}
use Rattle.term_lists.specs.Vectors.{sums_of}
use Rattle.order_change.specs.Changing.{IsChanging}
use Rattle.monomial_orders.specs.Kept.{monomials}
use Rattle.order_change.proofs.change.changed.Given as goal

abbrev pub invariant-loop-change : goal.invariant-loop-change
invariant-loop-change l = let n = length l.ring.weights in IsChanging n l.ring (sums_of n l.basis) (monomials n l.standard) l.change

abbrev pub decreases-loop-change : goal.decreases-loop-change
decreases-loop-change l = length l.change.turns * length l.standard - sum l.change.turns
