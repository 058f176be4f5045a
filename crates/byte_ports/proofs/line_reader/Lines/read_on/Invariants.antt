use Rattle.std.proofs.Common.{◌≡◌, ◌≤◌, ◌+◌, ◌-◌, length, [], vec_capacity}
use Rattle.byte_ports.specs.Lines.{AreTaken, HasNoNewline}
use Rattle.byte_ports.proofs.line_reader.Lines.read_on.Given as goal

abbrev pub invariant-loop-count : goal.invariant-loop-count
invariant-loop-count g l = record {
  taken : AreTaken (record l.initial.self { held = l.initial.line.items }) (g.S.Source.left l.initial.source) (g.S.Source.left l.source) l.line.items;
  empty : l.self.held ≡ [];
  same : l.self.room ≡ l.initial.self.room;
  counts : length l.line.items ≤ l.self.room;
  line : HasNoNewline l.line.items;
  kept : g.S.Source.faults l.source ≡ g.S.Source.faults l.initial.source;
  going : g.S.Source.empty_reads l.source ≡ g.S.Source.empty_reads l.initial.source;
  capacity : vec_capacity l.initial.line ≤ vec_capacity l.line;
}

abbrev pub decreases-loop-count : goal.decreases-loop-count
decreases-loop-count g l = l.initial.self.room + 1 - length l.line.items
