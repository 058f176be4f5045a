use Rattle.schreyer_resolution.proofs.trails.later_stop.Goals as goal

pub later_trail-requires-clause-failing : goal.later_trail-requires-clause-failing
later_trail-requires-clause-failing g c = c.requires.failing c.in-Degree.field-0 c.in-Degree.last c.in-Degree.is

pub later_trail-requires-clause-vectors : goal.later_trail-requires-clause-vectors
later_trail-requires-clause-vectors g c = c.requires.vectors

pub later_trail-requires-clause-base : goal.later_trail-requires-clause-base
later_trail-requires-clause-base g c = c.requires.base

pub later_trail-requires-clause-monomial : goal.later_trail-requires-clause-monomial
later_trail-requires-clause-monomial g c = c.requires.monomial

pub later_trail-requires-clause-pair : goal.later_trail-requires-clause-pair
later_trail-requires-clause-pair g c = c.requires.pair
