use Rattle.induced_leads.proofs.pair_syzygies.take_least.Goals as goal

pub is_divided-requires-clause-monomial : goal.is_divided-requires-clause-monomial
is_divided-requires-clause-monomial c = c.requires.monomial
