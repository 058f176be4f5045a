use Rattle.module_vectors.proofs.sums.sum_terms.Goals as goal

pub sum_into-requires-clause-factors : goal.sum_into-requires-clause-factors
sum_into-requires-clause-factors g c = c.requires.factors

pub sum_into-requires-clause-vectors : goal.sum_into-requires-clause-vectors
sum_into-requires-clause-vectors g c = c.requires.vectors
