use Rattle.ideal_ops.proofs.stacking.stacked_vector.Goals as goal

pub stacked_terms-requires-clause-terms : goal.stacked_terms-requires-clause-terms
stacked_terms-requires-clause-terms c = c.requires.terms

pub stacked_terms-requires-clause-positions : goal.stacked_terms-requires-clause-positions
stacked_terms-requires-clause-positions c = c.requires.positions

pub stacked_terms-requires-clause-room : goal.stacked_terms-requires-clause-room
stacked_terms-requires-clause-room c = c.requires.room
