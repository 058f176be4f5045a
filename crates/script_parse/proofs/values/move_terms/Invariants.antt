use Rattle.std.proofs.Common.{drop, take, ◌++◌, ◌≡◌}
use Rattle.script_parse.specs.Tests.{moved_to}
use Rattle.script_parse.proofs.values.move_terms.Given as goal

abbrev pub invariant-loop-i : goal.invariant-loop-i
invariant-loop-i l = l.terms.items ≡ moved_to l.position (take l.i l.fn.terms.items) ++ drop l.i l.fn.terms.items
