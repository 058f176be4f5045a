use Rattle.std.proofs.Common.{arith, subst, sym, ◌∙◌}
use Rattle.monomial_orders.proofs.Filling.{differing_shown, filled_at}
use Rattle.monomial_orders.specs.Storage.{IsFilled}
use Rattle.monomial_orders.proofs.mono.Mono.differing.Goals as goal

pub differing-requires-clause-left : goal.differing-requires-clause-left
differing-requires-clause-left c = subst (λ n. IsFilled n c.kept.result.now) (sym c.variables.ensures) c.kept.ensures.kept.filled

pub differing-requires-clause-right : goal.differing-requires-clause-right
differing-requires-clause-right c =
    subst (λ n. IsFilled n c.kept-2.result.now) (sym c.variables.ensures)
    (filled_at c.args.self.now c.args.b.now c.kept-2.result.now c.requires.variables c.kept-2.ensures)

pub returns : goal.returns
returns c =
    differing_shown c.args.self.now c.args.b.now c.kept.result.now c.kept-2.result.now c.args.m c.differing.result
    c.requires.variables c.requires.inside c.kept.ensures c.kept-2.ensures c.differing.ensures
