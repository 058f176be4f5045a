use Rattle.std.proofs.Common.{◌≡◌, length}
use Rattle.std.specs.Io.KnownBytes.{Keeps}
use Rattle.byte_ports.proofs.std_ports.read_again.Given as goal

abbrev pub invariant-loop : goal.invariant-loop
invariant-loop g l =
    (length l.into ≡ length l.initial.into) × (l.faults ≡ l.initial.faults) × Keeps (g.R.Read.remaining l.initial.reader) (g.R.Read.remaining l.reader)
