use Rattle.std.proofs.Common.{length, ℕ, ◌<◌}
use Rattle.change_laws.specs.Standard.{Has, power}
use Rattle.monomial_orders.specs.Kept.{monomials}
use Rattle.order_change.proofs.leads.is_infinite.Given as goal

abbrev pub invariant-loop-i : goal.invariant-loop-i
invariant-loop-i l = let n = length l.weights in (v : ℕ) → v < l.i → (a : ℕ) × Has (monomials n l.leads) (power n v a)
