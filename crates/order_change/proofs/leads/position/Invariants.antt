use Rattle.std.proofs.Common.{get_or, length, ℕ, ◌<◌, ◌≡◌}
use Rattle.monomials.specs.Exponents.{exponents_of, unit}
use Rattle.monomial_orders.specs.Kept.{monomials}
use Rattle.order_change.proofs.leads.position.Given as goal

abbrev pub invariant-loop-i : goal.invariant-loop-i
invariant-loop-i l = let n = length l.weights in (k : ℕ) → k < l.i → get_or (monomials n l.list) k (unit n) ≡ exponents_of n l.m.exponents → ⊥
