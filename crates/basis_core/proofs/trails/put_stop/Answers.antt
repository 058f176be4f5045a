use Rattle.basis_core.proofs.trails.put_stop.Goals as goal

pub put_trail-requires-clause-shared : goal.put_trail-requires-clause-shared
put_trail-requires-clause-shared c = c.requires.shared

pub put_trail-requires-clause-monic : goal.put_trail-requires-clause-monic
put_trail-requires-clause-monic c = c.requires.monic

pub put_trail-requires-clause-base : goal.put_trail-requires-clause-base
put_trail-requires-clause-base c = c.requires.base
