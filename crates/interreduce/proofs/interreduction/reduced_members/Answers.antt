use Rattle.interreduce.proofs.interreduction.reduced_members.Goals as goal

pub reduced_by_earlier-requires-clause-vectors : goal.reduced_by_earlier-requires-clause-vectors
reduced_by_earlier-requires-clause-vectors g c κs within = c.requires.vectors

pub reduced_by_earlier-requires-clause-needed : goal.reduced_by_earlier-requires-clause-needed
reduced_by_earlier-requires-clause-needed g c κs within = c.requires.needed
