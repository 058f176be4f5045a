use Rattle.order_change.proofs.products.candidate_of.Goals as goal

pub multiple-requires-clause-index : goal.multiple-requires-clause-index
multiple-requires-clause-index c = c.requires.variable
