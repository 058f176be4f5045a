use Rattle.std.proofs.Common.{arith, subst}
use Rattle.column_passes.specs.Constants.{IsLeastUnit}
use Rattle.column_passes.proofs.Units.{unit_kept, unit_lower}
use Rattle.column_passes.proofs.constants.lower.Goals as goal

pub returns-then-degree-gt0 : goal.returns-then-degree-gt0
returns-then-degree-gt0 c = λ v h.
    let test = c.if-degree-gt0.true in
    let is = c.degree.ensures.value in
    unit_kept v c.args.term.now c.args.least (omega (arith, test, is)) h

pub returns-then-found-term : goal.returns-then-found-term
returns-then-found-term c = λ v h.
    unit_lower v c.args.term.now c.in-Some.found c.if-found-term.true (subst (IsLeastUnit v) c.in-Some.is h)
