use Rattle.std.proofs.Common.{length, ◌≡◌}
use Rattle.monomial_orders.specs.Kept.{AreWeights}
use Rattle.check_texts.proofs.rings.variables_of.Given as goal

abbrev pub invariant-loop-variable : goal.invariant-loop-variable
invariant-loop-variable l = (length l.weights.items ≡ length l.names.items) × AreWeights l.weights.items
