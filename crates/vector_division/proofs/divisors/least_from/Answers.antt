use Rattle.std.proofs.Common.{arith}
use Rattle.vector_division.proofs.divisors.least_from.Goals as goal

pub returns-then-place-len : goal.returns-then-place-len
returns-then-place-len g c = c.requires c.args.place c.index.result.now (omega arith) (omega arith) c.index.ensures

pub returns : goal.returns
returns g c = λ j d le lt at. absurd (omega (arith, le, lt))
