use Rattle.schreyer_resolution.proofs.trails.first_stop.Goals as goal

pub first_trail-requires-clause-vectors : goal.first_trail-requires-clause-vectors
first_trail-requires-clause-vectors g c = c.requires.vectors

pub first_trail-requires-clause-base : goal.first_trail-requires-clause-base
first_trail-requires-clause-base g c = c.requires.base

pub first_trail-requires-clause-monomial : goal.first_trail-requires-clause-monomial
first_trail-requires-clause-monomial g c = c.requires.monomial

pub first_trail-requires-clause-pair : goal.first_trail-requires-clause-pair
first_trail-requires-clause-pair g c = c.requires.pair
