use Rattle.std.proofs.Common.{arith}
use Rattle.monomial_orders.proofs.Filling.{shown_most}
use Rattle.monomial_orders.proofs.PlaceByPlace.{exponents_within}
use Rattle.monomial_orders.proofs.mono.Mono.bounds.Goals as goal

pub returns-clause-within : goal.returns-clause-within
returns-clause-within c = λ n.
    exponents_within 65535 n c.args.self.now.exponents
    (λ k. omega (arith, shown_most c.args.self.now c.kept.result.now k c.kept.ensures, c.kept.ensures.kept.bounded k))

pub returns-clause-each : goal.returns-clause-each
returns-clause-each c = λ k. omega (arith, shown_most c.args.self.now c.kept.result.now k c.kept.ensures, c.kept.ensures.kept.bounded k)

pub returns-clause-held : goal.returns-clause-held
returns-clause-held c = λ k. omega (arith, shown_most c.args.self.now c.kept.result.now k c.kept.ensures, c.kept.ensures.kept.held k)
