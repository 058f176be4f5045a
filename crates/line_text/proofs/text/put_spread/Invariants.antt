use Rattle.std.proofs.Common.{drop, length, ◌≤◌}
use Rattle.line_text.specs.Texts.{AreInOrder, spread}
use Rattle.line_text.proofs.Sending.{IsUnderway}
use Rattle.line_text.proofs.text.put_spread.Given as goal

abbrev pub invariant-loop-run : goal.invariant-loop-run
invariant-loop-run g l = record {
  underway : IsUnderway (g.K.Sink.taken l.initial.sink) (g.K.Sink.taken l.sink) l.initial.pieces l.pieces (spread l.bytes l.start (drop l.run-index l.runs)) (spread l.bytes 0 l.runs);
  order : AreInOrder l.start (drop l.run-index l.runs) (length l.bytes);
  later : g.K.Sink.faults l.initial.sink ≤ g.K.Sink.faults l.sink;
}
