use Rattle.std.proofs.Common.{false, length, take, ◌≡◌}
use Rattle.monomial_counts.specs.Counts.{has_divisor}
use Rattle.monomials.specs.Exponents.{exponents_of}
use Rattle.monomial_orders.specs.Kept.{monomials}
use Rattle.hilbert_series.proofs.generators.is_multiple.Given as goal

abbrev pub invariant-loop-generator : goal.invariant-loop-generator
invariant-loop-generator l =
    has_divisor (monomials (length l.weights) (take l.generator-index l.list)) (exponents_of (length l.weights) l.m.exponents) ≡ false
