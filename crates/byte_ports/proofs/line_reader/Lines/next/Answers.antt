use Rattle.std.proofs.Common.{◌≡◌, ◌-◌, min, length, take, drop, ap, arith}
use Rattle.std.proofs.lemmas.List.{length-take}
use Rattle.byte_ports.specs.Lines.{Reading}
use Rattle.byte_ports.proofs.Readings.{answers_at}
use Rattle.byte_ports.proofs.line_reader.Lines.next.Goals as goal

pub returns-clause-answer : goal.returns-clause-answer
returns-clause-answer g c =
    answers_at c.args.self.now c.seek-answer.new.self _ (g.S.Source.left c.args.source.now) (g.S.Source.left c.seek-answer.new.source) c.seek-answer.new.line.items
    c.seek-answer.result (ap (λ (r : Reading). r.held) c.self.view_is) (ap (λ (r : Reading). r.room) c.self.view_is) c.seek-answer.ensures.answer

pub returns-clause-ahead : goal.returns-clause-ahead
returns-clause-ahead g c =
    let bytes = drop c.self.inside.start c.self.inside.buffer.items in
    let len : length (take (c.self.inside.end - c.self.inside.start) bytes) ≡ min (c.self.inside.end - c.self.inside.start) (length bytes) =
    length-take (c.self.inside.end - c.self.inside.start) bytes in
    omega (arith, len, c.self.invariant.0, c.self.invariant.1, c.self.invariant.2)
