use Rattle.std.proofs.Common.{length, map, take, ◌≡◌}
use Rattle.monomials.specs.Exponents.{exponents_of, quotient}
use Rattle.monomial_orders.specs.Kept.{monomials}
use Rattle.hilbert_series.proofs.generators.is_apart.Given as goal

abbrev pub invariant-loop-generator : goal.invariant-loop-generator
invariant-loop-generator l =
    map (λ s. quotient s (exponents_of (length l.weights) l.p.exponents)) (monomials (length l.weights) (take l.generator-index l.list))
    ≡ monomials (length l.weights) (take l.generator-index l.list)
