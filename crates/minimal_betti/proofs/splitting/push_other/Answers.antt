use Rattle.minimal_betti.proofs.splitting.push_other.Goals as goal

pub split_column-requires-clause-inverse : goal.split_column-requires-clause-inverse
split_column-requires-clause-inverse c = c.requires.inverse

pub split_column-requires-clause-inside : goal.split_column-requires-clause-inside
split_column-requires-clause-inside c = c.requires.inside

pub split_column-requires-clause-index : goal.split_column-requires-clause-index
split_column-requires-clause-index c = c.requires.index

pub split_column-requires-clause-columns : goal.split_column-requires-clause-columns
split_column-requires-clause-columns c = c.requires.columns
