use Rattle.std.proofs.Common.{List, ℕ, refl, ◌++◌, ap, ◌∙◌, arith}
use Rattle.byte_ports.proofs.Readings.{answers_as, needs_more}
use Rattle.byte_ports.proofs.line_reader.Lines.seek.Goals as goal

pub returns-in-Some-clause-answer : goal.returns-in-Some-clause-answer
returns-in-Some-clause-answer g c =
    answers_as c.args.self.now (record c.args.self.now { held = c.clear.new.self.items ++ c.args.self.now.held }) c.move_held.new.self (g.S.Source.left c.args.source.now)
    (g.S.Source.left c.args.source.now) c.move_held.new.line.items c.in-Some.answer (ap (λ l. l ++ c.args.self.now.held) c.clear.ensures.items) refl
    (c.in-Some.ensures.answer (g.S.Source.left c.args.source.now))

pub returns-in-None-clause-answer : goal.returns-in-None-clause-answer
returns-in-None-clause-answer g c =
    let all = c.move_held.ensures.all c.in-None.is in
    answers_as c.args.self.now (record c.move_held.new.self { held = c.move_held.new.line.items }) c.read_on.new.self (g.S.Source.left c.args.source.now)
    (g.S.Source.left c.read_on.new.source) c.read_on.new.line.items c.read_on.result (◌∙◌ {A = List ℕ} all.0 (ap (λ l. l ++ c.args.self.now.held) c.clear.ensures.items)) all.4 c.read_on.ensures.answer

pub returns-in-None-clause-unread : goal.returns-in-None-clause-unread
returns-in-None-clause-unread g c held =
    let all = c.move_held.ensures.all c.in-None.is in
    absurd (held (needs_more c.args.self.now c.clear.new.self.items c.move_held.new.line.items c.clear.ensures.items all.0 all.2 all.3))

pub returns-in-None-clause-memory : goal.returns-in-None-clause-memory
returns-in-None-clause-memory g c stop =
    let all = c.move_held.ensures.all c.in-None.is in
    omega (arith, c.read_on.ensures.memory stop, c.clear.ensures.capacity, c.move_held.ensures.capacity, all.4)
