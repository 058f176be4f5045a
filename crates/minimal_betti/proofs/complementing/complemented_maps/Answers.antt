use Rattle.std.specs.Prelude.{IfSome}
use Rattle.std.proofs.Common.{[], arith, map, refl, reverse, rules, subst, sym, ◌<◌, ◌≡◌}
use Rattle.term_lists.specs.Rings.{variables}
use Rattle.column_passes.specs.Passing.{Pivot}
use Rattle.minimal_betti.specs.Carried.{graded_maps}
use Rattle.minimal_betti.specs.Complementing.{ComesTo, IsComplemented}
use Rattle.minimal_betti.proofs.Pending.{IsPending, next_graded, next_vectors, pending_first, pending_last, pending_next, pending_none}
use Rattle.minimal_betti.proofs.complementing.complemented_maps.Goals as goal

pub returns-in_default : goal.returns-in_default
returns-in_default c =
    let none : c.args.maps.items ≡ [] = search rules in
    pending_none c.args.ring.now c.args.positions.now.items c.args.maps.items c.in_ok-done.done.items none c.in_ok-done.ensures.items c.requires

pub loop-popped-init : goal.loop-popped-init
loop-popped-init c =
    let ring = c.args.ring.now in
    let rows = c.args.positions.now.items in
    let C = graded_maps ring rows (reverse c.args.maps.items) in
    let above : 1 < ring.modulus.value = (c.lawful_setting.ensures 0).domain.above_one in
    let choice = c.in_ok-passed.ensures in
    subst (λ d. IsPending ring C c.leave_positions.new.positions.items d c.in-Some.first c.in_ok-passed.passed c.pop.new.self.items)
    (sym c.in_ok-done.ensures.items)
    (pending_first ring (omega (arith, above)) C rows c.leave_positions.new.positions.items c.args.maps.items c.pop.new.self.items c.in-Some.first
    c.in_ok-passed.passed choice c.in-Some.ensures.items refl c.requires
    (c.in_ok-leave_positions.ensures (map (λ (s : Pivot (variables ring)). s.row) choice.pivots) choice.rows))

pub lowered_map-requires-clause-vectors : goal.lowered_map-requires-clause-vectors
lowered_map-requires-clause-vectors c =
    let ring = c.args.ring.now in
    let above : 1 < ring.modulus.value = (c.lawful_setting.ensures 0).domain.above_one in
    next_vectors ring (omega (arith, above)) (graded_maps ring c.args.positions.now.items (reverse c.args.maps.items)) c.loop-popped.rest.items
    c.pop-in-loop-popped.new.self.items c.in-Some-pop.popped c.in-Some-pop.ensures.items c.loop-popped.invariant.ordered_rest

pub chosen_in-requires-in-Some-pop-clause-vectors : goal.chosen_in-requires-in-Some-pop-clause-vectors
chosen_in-requires-in-Some-pop-clause-vectors c =
    let h = c.loop-popped.invariant in
    let is = map (λ (s : Pivot (variables c.args.ring.now)). s.index) h.choice.pivots in
    (c.in_ok-next.ensures is h.choice.indices).0.vectors

pub chosen_in-requires-in-Some-pop-clause-graded : goal.chosen_in-requires-in-Some-pop-clause-graded
chosen_in-requires-in-Some-pop-clause-graded c =
    let ring = c.args.ring.now in
    let h = c.loop-popped.invariant in
    let is = map (λ (s : Pivot (variables ring)). s.index) h.choice.pivots in
    let above : 1 < ring.modulus.value = (c.lawful_setting.ensures 0).domain.above_one in
    let C = graded_maps ring c.args.positions.now.items (reverse c.args.maps.items) in
    next_graded ring (omega (arith, above)) C c.leave_positions.new.positions.items c.loop-popped.done.items c.loop-popped.current c.loop-popped.passed
    c.loop-popped.rest.items c.pop-in-loop-popped.new.self.items c.in-Some-pop.popped c.in_ok-next.next h c.in-Some-pop.ensures.items (c.in_ok-next.ensures is h.choice.indices)

pub loop-popped-preserved : goal.loop-popped-preserved
loop-popped-preserved c =
    let ring = c.args.ring.now in
    let h = c.loop-popped.invariant in
    let is = map (λ (s : Pivot (variables ring)). s.index) h.choice.pivots in
    let above : 1 < ring.modulus.value = (c.lawful_setting.ensures 0).domain.above_one in
    let C = graded_maps ring c.args.positions.now.items (reverse c.args.maps.items) in
    let rows = c.leave_positions.new.positions.items in
    let choice = c.in_ok-next_passed.ensures in
    let rs = map (λ (s : Pivot (variables ring)). s.row) choice.pivots in
    let made : IsComplemented ring h.choice.pivots rs c.loop-popped.current c.in-Some-2.map =
    subst (λ o. IfSome o (IsComplemented ring h.choice.pivots rs c.loop-popped.current)) c.in-Some-2.is
    (c.in_ok-complemented_map.ensures h.choice rs choice.rows) in
    subst (λ d. IsPending ring C rows d c.in_ok-next.next c.in_ok-next_passed.next_passed c.pop-in-loop-popped.new.self.items) (sym c.in_ok-push-in-Some-2.ensures.items)
    (pending_next ring (omega (arith, above)) C rows c.loop-popped.done.items c.loop-popped.current c.loop-popped.passed c.loop-popped.rest.items
    c.pop-in-loop-popped.new.self.items c.in-Some-pop.popped c.in_ok-next.next h c.in-Some-pop.ensures.items (c.in_ok-next.ensures is h.choice.indices)
    c.in_ok-next_passed.next_passed choice c.in-Some-2.map made)

pub returns-in_ok-push-in-Some-3 : goal.returns-in_ok-push-in-Some-3
returns-in_ok-push-in-Some-3 c =
    let ring = c.args.ring.now in
    let h = c.loop-popped.invariant in
    let above : 1 < ring.modulus.value = (c.lawful_setting.ensures 0).domain.above_one in
    let C = graded_maps ring c.args.positions.now.items (reverse c.args.maps.items) in
    let none : c.loop-popped.rest.items ≡ [] = search rules in
    let made : IsComplemented ring h.choice.pivots [] c.loop-popped.current c.in-Some-3.map =
    subst (λ o. IfSome o (IsComplemented ring h.choice.pivots [] c.loop-popped.current)) c.in-Some-3.is
    (c.in_ok-complemented_map-2.ensures h.choice [] c.none_leaving.ensures) in
    subst (ComesTo ring C c.leave_positions.new.positions.items) (sym c.in_ok-push-in-Some-3.ensures.items)
    (pending_last ring (omega (arith, above)) C c.leave_positions.new.positions.items c.loop-popped.done.items c.loop-popped.current c.loop-popped.passed
    c.loop-popped.rest.items h none c.in-Some-3.map made)
