use Rattle.std.proofs.Common.{get_or, length, ℕ, ◌<◌, ◌≡◌}
use Rattle.monomials.specs.Exponents.{unit}
use Rattle.change_laws.specs.Standard.{power}
use Rattle.monomial_orders.specs.Kept.{monomials}
use Rattle.order_change.proofs.leads.has_power.Given as goal

abbrev pub invariant-loop-lead : goal.invariant-loop-lead
invariant-loop-lead l = let n = length l.weights in (k : ℕ) → k < l.lead-index → (a : ℕ) → get_or (monomials n l.leads) k (unit n) ≡ power n l.i a → ⊥
