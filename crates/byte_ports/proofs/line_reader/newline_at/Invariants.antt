use Rattle.std.proofs.Common.{take}
use Rattle.byte_ports.specs.Lines.{HasNoNewline}
use Rattle.byte_ports.proofs.line_reader.newline_at.Given as goal

abbrev pub invariant-loop-at : goal.invariant-loop-at
invariant-loop-at l = HasNoNewline (take l.at l.bytes)
