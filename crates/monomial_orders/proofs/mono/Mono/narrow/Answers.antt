use Rattle.monomial_orders.proofs.mono.Mono.narrow.Goals as goal

pub returns : goal.returns
returns c = c.kept.ensures.kept.narrow
