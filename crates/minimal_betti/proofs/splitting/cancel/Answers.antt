use Rattle.std.proofs.Common.{[], arith, reverse, ◌<◌, ◌∷◌}
use Rattle.minimal_betti.proofs.Splittings.{next_count, ordered_here, ordered_rest, step_falls, step_leads, step_underway, stops_here}
use Rattle.minimal_betti.proofs.splitting.cancel.Goals as goal

pub split_map-requires-clause-columns : goal.split_map-requires-clause-columns
split_map-requires-clause-columns c = ordered_here c.args.ring.now c.args.done.now.items c.args.current
    (reverse c.args.rest.now.items) c.requires.underway.ordered

pub leave_maps-requires : goal.leave_maps-requires
leave_maps-requires c = ordered_rest c.args.ring.now c.args.done.now.items c.args.current c.args.rest.now.items c.requires.underway.ordered

pub split_map-requires-clause-first : goal.split_map-requires-clause-first
split_map-requires-clause-first c = c.requires.first

pub returns-in-Ok-leave_maps-clause-underway : goal.returns-in-Ok-leave_maps-clause-underway
returns-in-Ok-leave_maps-clause-underway c =
    let ring = c.args.ring.now in
    let above : 1 < ring.modulus.value = (c.lawful_setting.ensures 0).domain.above_one in
    step_underway ring c.args.at c.args.current c.in-Ok.split c.requires.first c.in-Ok.ensures.split (omega (arith, above))
    c.args.positions.now.items c.leave_maps.new.positions.items c.args.done.now.items c.leave_maps.new.done.items c.args.rest.now.items
    c.leave_maps.new.rest.items
    c.in-Ok-leave_maps.ensures.former
    c.in-Ok-leave_maps.ensures.next c.requires.underway

pub returns-in-Ok-leave_maps-clause-leads : goal.returns-in-Ok-leave_maps-clause-leads
returns-in-Ok-leave_maps-clause-leads c =
    let ring = c.args.ring.now in
    let above : 1 < ring.modulus.value = (c.lawful_setting.ensures 0).domain.above_one in
    step_leads ring c.args.at c.args.current c.in-Ok.split c.requires.first c.in-Ok.ensures.split (omega (arith, above))
    c.args.positions.now.items c.leave_maps.new.positions.items c.args.done.now.items c.leave_maps.new.done.items c.args.rest.now.items
    c.leave_maps.new.rest.items
    c.in-Ok-leave_maps.ensures.former
    c.in-Ok-leave_maps.ensures.next c.requires.underway

pub returns-in-Ok-leave_maps-clause-falls : goal.returns-in-Ok-leave_maps-clause-falls
returns-in-Ok-leave_maps-clause-falls c = step_falls c.args.ring.now c.args.at c.args.current c.in-Ok.split c.requires.first c.in-Ok.ensures.split

pub returns-in-Ok-leave_maps-clause-rest : goal.returns-in-Ok-leave_maps-clause-rest
returns-in-Ok-leave_maps-clause-rest c = next_count c.args.ring.now (c.args.at.column ∷ []) c.args.rest.now.items c.leave_maps.new.rest.items
    c.in-Ok-leave_maps.ensures.next

pub returns-in-Err-clause-stop : goal.returns-in-Err-clause-stop
returns-in-Err-clause-stop c =
    stops_here c.args.ring.now c.args.at c.args.current (reverse c.args.rest.now.items) c.requires.first (c.lawful_setting.ensures 0).domain
    c.args.positions.now.items c.args.done.now.items c.requires.underway.none c.in-Err.stop c.in-Err.ensures.stop
