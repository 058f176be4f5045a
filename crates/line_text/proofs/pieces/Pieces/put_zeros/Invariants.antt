use Rattle.std.proofs.Common.{◌*◌, ◌≤◌}
use Rattle.line_text.specs.Sending.{AreSent}
use Rattle.line_text.specs.Texts.{zero_bytes}
use Rattle.line_text.proofs.pieces.Pieces.put_zeros.Given as goal

abbrev pub invariant-loop : goal.invariant-loop
invariant-loop g l = record {
  sent : AreSent (g.K.Sink.taken l.initial.sink) (g.K.Sink.taken l.sink) l.initial.self l.self (zero_bytes (128 * l.counter));
  later : g.K.Sink.faults l.initial.sink ≤ g.K.Sink.faults l.sink;
}
