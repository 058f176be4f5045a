use Rattle.std.proofs.Common.{◌≡◌, drop}
use Rattle.script_parse.specs.Tests.{stands_among}
use Rattle.script_parse.proofs.ring_line.stands_in.Given as goal

abbrev pub invariant-loop-token : goal.invariant-loop-token
invariant-loop-token l = stands_among l.line l.word (drop l.token-index l.tokens) ≡ stands_among l.line l.word l.tokens
