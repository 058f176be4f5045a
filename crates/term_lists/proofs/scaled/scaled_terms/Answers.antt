use Rattle.term_lists.proofs.scaled.scaled_terms.Goals as goal

pub scale_into-requires-clause-nonzero : goal.scale_into-requires-clause-nonzero
scale_into-requires-clause-nonzero g c = c.requires.nonzero

pub scale_into-requires-clause-factor : goal.scale_into-requires-clause-factor
scale_into-requires-clause-factor g c = c.requires.factor

pub scale_into-requires-clause-variables : goal.scale_into-requires-clause-variables
scale_into-requires-clause-variables g c = c.requires.variables

pub scale_into-requires-clause-vector : goal.scale_into-requires-clause-vector
scale_into-requires-clause-vector g c = c.requires.vector
