use Rattle.std.proofs.Common.{take, ◌≡◌}
use Rattle.minimal_betti.proofs.Entries.{in_row}
use Rattle.minimal_betti.proofs.stopping.entry_of.Given as goal

abbrev pub invariant-loop-term : goal.invariant-loop-term
invariant-loop-term l = l.terms.items ≡ in_row l.row (take l.term-index l.term-items)
