use Rattle.hilbert_series.proofs.generators.quotients.Goals as goal

pub quotient_by-requires-clause-right : goal.quotient_by-requires-clause-right
quotient_by-requires-clause-right c = c.requires.monomial
