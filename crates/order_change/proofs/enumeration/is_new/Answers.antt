use Rattle.std.proofs.Common.{refl}
use Rattle.order_change.proofs.enumeration.is_new.Goals as goal

pub returns-in-None : goal.returns-in-None
returns-in-None c = ((λ t. (c.if-not-is_standard.ensures.0 refl, c.in-None.ensures.none)), λ new. refl)

pub is_standard-requires-clause-leads : goal.is_standard-requires-clause-leads
is_standard-requires-clause-leads c = c.requires.leads

pub is_standard-requires-clause-monomial : goal.is_standard-requires-clause-monomial
is_standard-requires-clause-monomial c = c.requires.monomial

pub position-requires-clause-list : goal.position-requires-clause-list
position-requires-clause-list c = c.requires.list

pub position-requires-clause-monomial : goal.position-requires-clause-monomial
position-requires-clause-monomial c = c.requires.monomial
