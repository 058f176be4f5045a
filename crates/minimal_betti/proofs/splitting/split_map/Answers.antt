use Rattle.minimal_betti.proofs.splitting.split_map.Goals as goal

pub split_columns-requires-clause-columns : goal.split_columns-requires-clause-columns
split_columns-requires-clause-columns c = c.requires.columns
