use Rattle.std.proofs.Common.{◌≡◌, ◌<◌, ◌≤◌, ◌-◌, length, take, drop, sym, ap, ◌∙◌, arith}
use Rattle.byte_ports.specs.Lines.{Reading}
use Rattle.byte_ports.proofs.Newlines.{moved_line, moved_long, moved_all}
use Rattle.byte_ports.proofs.Readings.{line_moved, long_moved}
use Rattle.byte_ports.proofs.line_reader.Lines.move_held.Goals as goal

pub returns-in-Ok-clause-answer : goal.returns-in-Ok-clause-answer
returns-in-Ok-clause-answer c left =
    let start = c.self.inside.start in
    let end = c.self.inside.end in
    let bytes : c.deref.result.now ≡ c.self.inside.buffer.items = c.deref.ensures.value in
    let room : c.self.inside.room ≡ c.args.self.now.room = ap (λ (r : Reading). r.room) c.self.view_is in
    let held : take (end - start) (drop start c.self.inside.buffer.items) ≡ c.args.self.now.held = ap (λ (r : Reading). r.held) c.self.view_is in
    let same : take (end - start) (drop start c.self.inside.buffer.items) ≡ take (end - start) (drop start c.deref.result.now) = ap (λ l. take (end - start) (drop start l)) (sym bytes) in
    let len : c.len.result ≡ length c.args.line.now.items = omega (arith, c.len.ensures, c.args.line.now.ok.0) in
    let counts : c.in-Some.at < c.args.self.now.room - length c.args.line.now.items = omega (arith, c.in-Some.ensures.1, room, len) in
    let rest : c.self.inside.room - c.len.result - c.in-Some.at - 1 ≡ c.args.self.now.room - length c.args.line.now.items - c.in-Some.at - 1 = omega (arith, room, len) in
    line_moved c.args.self.now _ left c.args.line.now.items _ (
    moved_line _ _ _ _ _ start end c.in-Some.at _ _ same (sym held ∙ same) c.in-Some.ensures.0 counts c.requires.room c.requires.line c.in-Some.ensures.2 c.in-Some.ensures.3
    c.in-Ok.ensures.items rest
    )

pub returns-in-None-clause-answer : goal.returns-in-None-clause-answer
returns-in-None-clause-answer c left =
    let start = c.self.inside.start in
    let end = c.self.inside.end in
    let bytes : c.deref.result.now ≡ c.self.inside.buffer.items = c.deref.ensures.value in
    let room : c.self.inside.room ≡ c.args.self.now.room = ap (λ (r : Reading). r.room) c.self.view_is in
    let held : take (end - start) (drop start c.self.inside.buffer.items) ≡ c.args.self.now.held = ap (λ (r : Reading). r.held) c.self.view_is in
    let same : take (end - start) (drop start c.self.inside.buffer.items) ≡ take (end - start) (drop start c.deref.result.now) = ap (λ l. take (end - start) (drop start l)) (sym bytes) in
    let len : c.len.result ≡ length c.args.line.now.items = omega (arith, c.len.ensures, c.args.line.now.ok.0) in
    let long : c.args.self.now.room - length c.args.line.now.items < length (take (end - start) (drop start c.deref.result.now)) = omega (arith, c.if-held-room.true, room, len) in
    long_moved c.args.self.now left c.args.line.now.items (moved_long _ _ _ _ (sym held ∙ same) long c.requires.room c.requires.line (rw (room, len) at c.in-None.ensures))

pub returns-in-Ok-extend_from_slice-clause-all : goal.returns-in-Ok-extend_from_slice-clause-all
returns-in-Ok-extend_from_slice-clause-all c _ =
    let start = c.self.inside.start in
    let end = c.self.inside.end in
    let bytes : c.deref.result.now ≡ c.self.inside.buffer.items = c.deref.ensures.value in
    let room : c.self.inside.room ≡ c.args.self.now.room = ap (λ (r : Reading). r.room) c.self.view_is in
    let held : take (end - start) (drop start c.self.inside.buffer.items) ≡ c.args.self.now.held = ap (λ (r : Reading). r.held) c.self.view_is in
    let same : take (end - start) (drop start c.self.inside.buffer.items) ≡ take (end - start) (drop start c.deref.result.now) = ap (λ l. take (end - start) (drop start l)) (sym bytes) in
    let len : c.len.result ≡ length c.args.line.now.items = omega (arith, c.len.ensures, c.args.line.now.ok.0) in
    let within : length (take (end - start) (drop start c.deref.result.now)) ≤ c.args.self.now.room - length c.args.line.now.items = omega (arith, c.if-held-room.false, room, len) in
    moved_all _ _ _ _ _ end _ _ (sym held ∙ same) within c.requires.room c.requires.line (rw (room, len) at c.in-None-2.ensures) c.in-Ok-extend_from_slice.ensures.items room
