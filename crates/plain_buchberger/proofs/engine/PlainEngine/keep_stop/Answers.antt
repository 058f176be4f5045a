use Rattle.std.proofs.Common.{refl}
use Rattle.plain_buchberger.proofs.engine.PlainEngine.keep_stop.Goals as goal

pub keep-requires-clause-some : goal.keep-requires-clause-some
keep-requires-clause-some c = (_, refl)

pub keep-requires-in-Beginning-clause-some : goal.keep-requires-in-Beginning-clause-some
keep-requires-in-Beginning-clause-some c = (_, refl)

pub keep-requires-in-Degree-clause-some : goal.keep-requires-in-Degree-clause-some
keep-requires-in-Degree-clause-some c = (_, refl)
