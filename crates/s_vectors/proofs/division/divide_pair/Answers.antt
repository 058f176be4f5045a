use Rattle.s_vectors.proofs.division.divide_pair.Goals as goal

pub divide_over-requires-clause-pair : goal.divide_over-requires-clause-pair
divide_over-requires-clause-pair c = c.requires.pair
