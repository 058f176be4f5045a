use Rattle.std.proofs.Common.{take}
use Rattle.script_parse.specs.Tests.{HasEntryTerms}
use Rattle.script_parse.proofs.values.entry_terms.Given as goal

abbrev pub invariant-loop-i : goal.invariant-loop-i
invariant-loop-i l = HasEntryTerms l.ring l.line (take l.i l.polynomials) l.all.items
