use Rattle.std.proofs.Common.{get_or, length, ℕ, ◌<◌, ◌≡◌}
use Rattle.monomials.specs.Exponents.{Divides, exponents_of, unit}
use Rattle.monomial_orders.specs.Kept.{monomials}
use Rattle.order_change.proofs.table.spare_variable.Given as goal

abbrev pub invariant-loop-lead : goal.invariant-loop-lead
invariant-loop-lead l =
    let n = length l.weights in
    (k : ℕ) → k < l.lead-index → Divides (get_or (monomials n l.leads) k (unit n)) (exponents_of n l.m.exponents) → get_or (monomials n l.leads) k (unit n) ≡ exponents_of n l.m.exponents
