use Rattle.minimal_betti.proofs.stopping.splitting_stop.Goals as goal

pub clearing_trail-requires-clause-inside : goal.clearing_trail-requires-clause-inside
clearing_trail-requires-clause-inside c = c.requires.inside

pub clearing_trail-requires-clause-index : goal.clearing_trail-requires-clause-index
clearing_trail-requires-clause-index c = c.requires.index

pub clearing_trail-requires-clause-apart : goal.clearing_trail-requires-clause-apart
clearing_trail-requires-clause-apart c = c.requires.apart

pub clearing_trail-requires-clause-columns : goal.clearing_trail-requires-clause-columns
clearing_trail-requires-clause-columns c = c.requires.columns
