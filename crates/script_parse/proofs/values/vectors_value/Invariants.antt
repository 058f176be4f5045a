use Rattle.std.proofs.Common.{length}
use Rattle.script_parse.proofs.Stating.{AreChunks}
use Rattle.script_parse.proofs.values.vectors_value.Given as goal

abbrev pub invariant-loop-rest : goal.invariant-loop-rest
invariant-loop-rest l = AreChunks l.ring l.line l.rank l.polynomials l.rest l.list

abbrev pub decreases-loop-rest : goal.decreases-loop-rest
decreases-loop-rest l = length l.rest
