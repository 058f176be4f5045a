use Rattle.std.proofs.Common.{List, ℕ, ◌≡◌, ◌<◌, ◌≤◌, ◌∙◌, Some, ap, length, subst, sym, arith}
use Rattle.std.proofs.lemmas.Bool.Decides.{nat_tests}
use Rattle.risen_counts.specs.Counts.{next_count}
use Rattle.byte_ports.specs.Lines.{AreTaken}
use Rattle.byte_ports.proofs.Readings.{answers_piece, cause_since, cut_off, end_since, fault_cause, faults_since, grows, last_bytes, no_bytes, not_empty, taken_more}
use Rattle.byte_ports.proofs.line_reader.Lines.read_on.Goals as goal

pub returns-in-Err-clause-answer : goal.returns-in-Err-clause-answer
returns-in-Err-clause-answer g c =
    cut_off _ _ (g.S.Source.left c.loop-count.source) (g.S.Source.left c.fill.new.source) c.loop-count.line.items c.loop-count.invariant.taken c.in-Err.ensures.bytes
    c.loop-count.invariant.line (omega (arith, c.loop-count.invariant.counts, c.loop-count.invariant.same))

pub returns-in-Err-clause-cause : goal.returns-in-Err-clause-cause
returns-in-Err-clause-cause g c = fault_cause _ _ _ _ c.loop-count.invariant.kept c.in-Err.ensures.cause

pub returns-in-Err-clause-counted : goal.returns-in-Err-clause-counted
returns-in-Err-clause-counted g c = c.in-Err.ensures.counted ∙ ap next_count c.loop-count.invariant.kept

pub returns-in-Err-clause-ended : goal.returns-in-Err-clause-ended
returns-in-Err-clause-ended g c = c.in-Err.ensures.empty ∙ c.loop-count.invariant.going

pub returns-in-Err-clause-capacity : goal.returns-in-Err-clause-capacity
returns-in-Err-clause-capacity g c = c.loop-count.invariant.capacity

pub returns-then-is_empty-clause-answer : goal.returns-then-is_empty-clause-answer
returns-then-is_empty-clause-answer g c =
    let counts : length c.loop-count.line.items ≤ c.args.self.now.room = omega (arith, c.loop-count.invariant.counts, c.loop-count.invariant.same) in
    let nothing : length c.loop-count.line.items ≡ 0 = grind (arith, nat_tests, c.if-is_empty.ensures, c.loop-count.line.ok.0) in
    no_bytes _ _ (g.S.Source.left c.loop-count.source) (g.S.Source.left c.fill.new.source) c.loop-count.line.items c.fill.new.self.held nothing c.loop-count.invariant.taken
    c.in-Ok.ensures.bytes.0 (c.in-Ok.ensures.bytes.1 ∙ c.if-count-eq0.true) (c.in-Ok.ensures.bytes.2 c.if-count-eq0.true) c.loop-count.invariant.line counts

pub returns-then-is_empty-clause-capacity : goal.returns-then-is_empty-clause-capacity
returns-then-is_empty-clause-capacity g c = c.loop-count.invariant.capacity

pub returns-then-count-eq0-clause-answer : goal.returns-then-count-eq0-clause-answer
returns-then-count-eq0-clause-answer g c =
    let counts : length c.loop-count.line.items ≤ c.args.self.now.room = omega (arith, c.loop-count.invariant.counts, c.loop-count.invariant.same) in
    let some : 0 < length c.loop-count.line.items = grind (arith, nat_tests, c.if-is_empty.ensures, c.loop-count.line.ok.0) in (
      last_bytes _ _ (g.S.Source.left c.loop-count.source) (g.S.Source.left c.fill.new.source) c.loop-count.line.items c.fill.new.self.held c.loop-count.invariant.taken
          c.in-Ok.ensures.bytes.0 (c.in-Ok.ensures.bytes.1 ∙ c.if-count-eq0.true) (c.in-Ok.ensures.bytes.2 c.if-count-eq0.true) c.loop-count.invariant.line counts,
      some,
    )

pub returns-then-count-eq0-clause-capacity : goal.returns-then-count-eq0-clause-capacity
returns-then-count-eq0-clause-capacity g c = c.loop-count.invariant.capacity

pub returns-in-Some-clause-answer : goal.returns-in-Some-clause-answer
returns-in-Some-clause-answer g c =
    answers_piece _ c.fill.new.self c.move_held.new.self _ _ (g.S.Source.left c.fill.new.source) c.loop-count.line.items c.move_held.new.line.items c.in-Some.answer
    c.loop-count.invariant.taken c.in-Ok.ensures.bytes.0 (c.in-Ok.ensures.room ∙ c.loop-count.invariant.same) (c.in-Some.ensures.answer (g.S.Source.left c.fill.new.source))

pub returns-in-Some-clause-cause : goal.returns-in-Some-clause-cause
returns-in-Some-clause-cause g c =
    cause_since _ _ c.in-Some.answer (c.in-Ok.ensures.counted ∙ c.loop-count.invariant.kept) (c.in-Some.ensures.unread (g.S.Source.faults c.fill.new.source)).0

pub returns-in-Some-clause-counted : goal.returns-in-Some-clause-counted
returns-in-Some-clause-counted g c =
    faults_since _ _ c.in-Some.answer (c.in-Ok.ensures.counted ∙ c.loop-count.invariant.kept) (c.in-Some.ensures.unread (g.S.Source.faults c.fill.new.source)).1

pub returns-in-Some-clause-ended : goal.returns-in-Some-clause-ended
returns-in-Some-clause-ended g c =
    end_since _ _ c.in-Some.answer (not_empty _ _ _ c.if-count-eq0.false c.in-Ok.ensures.empty ∙ c.loop-count.invariant.going)
    (c.in-Some.ensures.unread (g.S.Source.empty_reads c.fill.new.source)).2

pub returns-in-Some-clause-memory : goal.returns-in-Some-clause-memory
returns-in-Some-clause-memory g c stop =
    omega (
      arith,
      c.move_held.ensures.memory (c.in-Some.is ∙ ap Some stop),
      c.in-Ok.ensures.room,
      c.loop-count.invariant.same,
      c.loop-count.invariant.capacity,
    )

pub returns-in-Some-clause-capacity : goal.returns-in-Some-clause-capacity
returns-in-Some-clause-capacity g c = omega (arith, c.move_held.ensures.capacity, c.loop-count.invariant.capacity)

pub loop-count-smaller : goal.loop-count-smaller
loop-count-smaller g c =
    let all = c.move_held.ensures.all c.in-None.is in
    let within : length c.move_held.new.line.items ≤ c.args.self.now.room = omega (arith, all.3, c.in-Ok.ensures.room, c.loop-count.invariant.same) in
    grows c.loop-count.line.items c.fill.new.self.held c.move_held.new.line.items c.in-Ok.count c.args.self.now.room all.0 c.in-Ok.ensures.bytes.1 c.if-count-eq0.false within

pub loop-count-preserved : goal.loop-count-preserved
loop-count-preserved g c =
    let all = c.move_held.ensures.all c.in-None.is in
    record {
      taken = subst (AreTaken _ _ _) (sym {A = List ℕ} all.0) (
          taken_more _ _ (g.S.Source.left c.loop-count.source) (g.S.Source.left c.fill.new.source) c.loop-count.line.items c.fill.new.self.held c.loop-count.invariant.taken
          c.in-Ok.ensures.bytes.0
          );
      empty = all.1;
      same = all.4 ∙ c.in-Ok.ensures.room ∙ c.loop-count.invariant.same;
      counts = omega (arith, all.3, all.4);
      line = all.2;
      kept = c.in-Ok.ensures.counted ∙ c.loop-count.invariant.kept;
      going = not_empty _ _ _ c.if-count-eq0.false c.in-Ok.ensures.empty ∙ c.loop-count.invariant.going;
      capacity = omega (arith, c.move_held.ensures.capacity, c.loop-count.invariant.capacity);
    }
