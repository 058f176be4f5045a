use Rattle.std.proofs.Common.{ap, length, map, subst, subst₂, sym, take}
use Rattle.formal_sums.specs.FormalSums.{Each}
use Rattle.term_lists.specs.Rings.{variables}
use Rattle.vector_division.specs.Progress.{AreWeighed}
use Rattle.resolution_maps.specs.Resolved.{HavePositions}
use Rattle.minimal_betti.specs.Carried.{AreOrdered}
use Rattle.minimal_betti.proofs.NoZeroColumns.{positions_are}
use Rattle.minimal_betti.proofs.Splittings.{graded_take, ordered_take, weighed_all}
use Rattle.minimal_betti.proofs.cancelling.resolution_of.Goals as goal

pub joined_maps-requires-clause-weighed : goal.joined_maps-requires-clause-weighed
joined_maps-requires-clause-weighed c =
    let ring = c.args.ring.now in
    let kept = c.truncate.new.self.items in
    let ordered = subst (AreOrdered ring) (sym c.truncate.ensures.items) (ordered_take ring c.kept_count-count.result c.args.maps.items c.requires.ordered) in
    subst (Each (AreWeighed (variables ring) ring.weights)) (sym c.in_ok-columns.ensures) (weighed_all ring kept ordered)

pub joined_maps-requires-clause-positions : goal.joined_maps-requires-clause-positions
joined_maps-requires-clause-positions c =
    let ring = c.args.ring.now in
    let rows = c.args.positions.items in
    let k = c.kept_count-count.result in
    subst₂ (λ r z. HavePositions r z) (ap length (sym c.deref-2.ensures.value)) (sym c.in_ok-columns.ensures)
    (subst (λ ms. HavePositions (length rows) (map (λ m. m.columns) ms)) (sym c.truncate.ensures.items)
    (positions_are ring (c.lawful_setting.ensures 0) rows (take k c.args.maps.items) (ordered_take ring k c.args.maps.items c.requires.ordered)
    (graded_take ring rows k c.args.maps.items c.requires.graded)))
