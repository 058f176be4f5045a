use Rattle.std.proofs.Common.{drop, reverse}
use Rattle.poly_value.proofs.Steps.{IsWorking}
use Rattle.poly_value.proofs.value.polynomial_value.Given as goal

abbrev pub invariant-loop-step : goal.invariant-loop-step
invariant-loop-step g l = IsWorking (g.F.Frame.over l.frame) l.line l.steps (drop l.step-index l.steps) (reverse l.stack.items)
