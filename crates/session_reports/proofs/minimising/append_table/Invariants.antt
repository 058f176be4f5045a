use Rattle.std.proofs.Common.{flat_map, take, ◌++◌, ◌≡◌}
use Rattle.session_reports.specs.Minimising.{entry_line}
use Rattle.session_reports.proofs.minimising.append_table.Given as goal

abbrev pub invariant-loop-entry : goal.invariant-loop-entry
invariant-loop-entry l = l.out ≡ l.initial.out ++ flat_map entry_line (take l.entry-index l.entries)
