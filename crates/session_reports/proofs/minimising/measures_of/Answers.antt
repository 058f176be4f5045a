use Rattle.std.proofs.Common.{inl, refl}
use Rattle.session_reports.proofs.minimising.measures_of.Goals as goal

pub returns-in-None : goal.returns-in-None
returns-in-None c = λ counts t. inl (c.invariants.ensures.none counts t c.in-None.is, refl, refl)
