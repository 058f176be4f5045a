use Rattle.std.proofs.Common.{length, map, take, ◌≡◌}
use Rattle.monomials.specs.Exponents.{exponents_of, quotient}
use Rattle.hilbert_series.specs.Generators.{AreMonomialGenerators}
use Rattle.monomial_orders.specs.Kept.{monomials}
use Rattle.hilbert_series.proofs.generators.quotients.Given as goal

abbrev pub invariant-loop-generator : goal.invariant-loop-generator
invariant-loop-generator l = record {
  generators : AreMonomialGenerators (length l.weights) l.weights l.all.items;
  long : length l.all.items ≡ l.generator-index;
  items : monomials (length l.weights) l.all.items
      ≡ map (λ s. quotient s (exponents_of (length l.weights) l.p.exponents)) (monomials (length l.weights) (take l.generator-index l.list));
}
