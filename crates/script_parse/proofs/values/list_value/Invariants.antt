use Rattle.std.proofs.Common.{take}
use Rattle.script_parse.specs.Tests.{AreWorths}
use Rattle.script_parse.proofs.values.list_value.Given as goal

abbrev pub invariant-loop-steps : goal.invariant-loop-steps
invariant-loop-steps l = AreWorths l.ring l.line (take l.steps-index l.polynomials) l.list
