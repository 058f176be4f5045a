use Rattle.std.proofs.Common.{arith, map, subst, sym, ◌<◌}
use Rattle.term_lists.specs.Rings.{variables}
use Rattle.term_lists.specs.Vectors.{sums_of}
use Rattle.column_passes.specs.Constants.{HasNoConstants}
use Rattle.column_passes.specs.Passing.{Pivot}
use Rattle.minimal_betti.proofs.Splittings.{ordered_rest}
use Rattle.minimal_betti.proofs.PassedMaps.{passed_none, passed_rest, passed_some}
use Rattle.minimal_betti.proofs.cancelling.leave_passed.Goals as goal

pub returns-then-passed-eq0-clause-none : goal.returns-then-passed-eq0-clause-none
returns-then-passed-eq0-clause-none c =
    let ring = c.args.ring.now in
    let h = c.requires.passed in
    passed_none ring c.args.current c.args.passed h (omega arith)

pub leave-requires : goal.leave-requires
leave-requires c =
    let ring = c.args.ring.now in
    let h = c.requires.passed in
    record {
      indices = (map (λ (s : Pivot (variables ring)). s.index) h.pivots, h.indices);
      ordered = ordered_rest ring c.args.done.now.items c.args.current c.args.rest.now.items c.requires.underway.ordered;
    }

pub returns-clause-underway : goal.returns-clause-underway
returns-clause-underway c =
    let ring = c.args.ring.now in
    let h = c.requires.passed in
    let above : 1 < ring.modulus.value = (c.lawful_setting.ensures 0).domain.above_one in
    (passed_some ring c.args.current c.args.passed h (omega arith) c.in_ok-left.left c.in_ok-left.ensures.columns
    c.in_ok-left.ensures.degrees c.args.positions.now.items c.leave.new.positions.items c.args.done.now.items c.leave.new.done.items
    c.args.rest.now.items c.leave.new.rest.items c.in_ok-left.ensures.former c.in_ok-left.ensures.next
    (omega (arith, above)) c.requires.underway).1

pub returns-clause-leads : goal.returns-clause-leads
returns-clause-leads c =
    let ring = c.args.ring.now in
    let h = c.requires.passed in
    let above : 1 < ring.modulus.value = (c.lawful_setting.ensures 0).domain.above_one in
    (passed_some ring c.args.current c.args.passed h (omega arith) c.in_ok-left.left c.in_ok-left.ensures.columns
    c.in_ok-left.ensures.degrees c.args.positions.now.items c.leave.new.positions.items c.args.done.now.items c.leave.new.done.items
    c.args.rest.now.items c.leave.new.rest.items c.in_ok-left.ensures.former c.in_ok-left.ensures.next
    (omega (arith, above)) c.requires.underway).0

pub returns-clause-rest : goal.returns-clause-rest
returns-clause-rest c =
    let ring = c.args.ring.now in
    let h = c.requires.passed in
    passed_rest ring c.args.current c.args.passed h (omega arith) c.in_ok-left.left c.in_ok-left.ensures.columns
    c.in_ok-left.ensures.degrees c.args.positions.now.items c.leave.new.positions.items c.args.done.now.items c.leave.new.done.items
    c.args.rest.now.items c.leave.new.rest.items c.in_ok-left.ensures.former c.in_ok-left.ensures.next

pub returns-clause-none : goal.returns-clause-none
returns-clause-none c =
    let ring = c.args.ring.now in
    subst (λ F. HasNoConstants ring.modulus.value (sums_of (variables ring) F)) (sym c.in_ok-left.ensures.columns) c.requires.passed.none
