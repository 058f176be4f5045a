use Rattle.std.proofs.Common.{◌≡◌}
use Rattle.std.specs.Io.KnownBytes.{Keeps}
use Rattle.byte_ports.proofs.std_ports.write_again.Given as goal

abbrev pub invariant-loop : goal.invariant-loop
invariant-loop g l = (l.faults ≡ l.initial.faults) × Keeps (g.W.Write.contents l.initial.writer) (g.W.Write.contents l.writer)
