use Rattle.std.proofs.Common.{length, MatchOption}
use Rattle.std.specs.Prelude.{slice_index}
use Rattle.monomials.specs.Exponents.{exponents_of}
use Rattle.monomial_orders.specs.Comparisons.{comparison}
use Rattle.order_change.specs.Products.{HadAllItems, IsCandidate, IsLeast}
use Rattle.monomial_orders.specs.Kept.{monomials}
use Rattle.order_change.proofs.products.least_product.Given as goal

abbrev pub invariant-loop-v : goal.invariant-loop-v
invariant-loop-v l =
    let n = length l.weights in
    MatchOption l.least (HadAllItems (slice_index l.turns) l.v (length l.list))
    (λ c. IsCandidate n l.weights l.list (slice_index l.turns) c
    × IsLeast n (comparison l.order l.weights n) (monomials n l.list) (slice_index l.turns) l.v (exponents_of n c.monomial.exponents))
