use Rattle.std.proofs.Common.{arith, ◌∙◌}
use Rattle.monomial_orders.proofs.Filling.{kept_again, shown_again}
use Rattle.monomial_orders.proofs.mono.Mono.try_copy.Goals as goal

pub try_copy-requires : goal.try_copy-requires
try_copy-requires c = omega (arith, c.kept.ensures.kept.filled.long, c.kept.ensures.kept.filled.variables)

pub invariant_of-result : goal.invariant_of-result
invariant_of-result c =
    kept_again c.args.self.now c.kept.result.now c.in_ok-stored.stored c.kept.ensures c.in_ok-stored.ensures.places
    (c.in_ok-stored.ensures.variables ∙ c.kept.ensures.kept.filled.variables) c.in_ok-stored.ensures.degree

pub returns-clause-ok : goal.returns-clause-ok
returns-clause-ok c =
    shown_again c.args.self.now c.kept.result.now c.in_ok-stored.stored c.kept.ensures c.in_ok-stored.ensures.places
    (c.in_ok-stored.ensures.variables ∙ c.kept.ensures.kept.filled.variables) c.in_ok-stored.ensures.degree
