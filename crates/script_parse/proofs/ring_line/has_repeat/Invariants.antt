use Rattle.std.proofs.Common.{◌≡◌, length}
use Rattle.script_parse.specs.Tests.{repeats}
use Rattle.script_parse.proofs.ring_line.has_repeat.Given as goal

abbrev pub invariant-loop-first : goal.invariant-loop-first
invariant-loop-first l = repeats l.line l.rest ≡ repeats l.line l.tokens

abbrev pub decreases-loop-first : goal.decreases-loop-first
decreases-loop-first l = length l.rest
