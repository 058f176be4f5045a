use Rattle.std.proofs.Common.{take}
use Rattle.script_parse.specs.Tests.{AreListedWeights}
use Rattle.script_parse.proofs.ring_line.weights_listed.Given as goal

abbrev pub invariant-loop-token : goal.invariant-loop-token
invariant-loop-token l = AreListedWeights l.line (take l.token-index l.tokens) l.weights.items
