use Rattle.order_change.proofs.table.place.Goals as goal

pub position-requires-clause-list : goal.position-requires-clause-list
position-requires-clause-list c = c.requires.standard

pub position-requires-clause-monomial : goal.position-requires-clause-monomial
position-requires-clause-monomial c = c.requires.monomial
