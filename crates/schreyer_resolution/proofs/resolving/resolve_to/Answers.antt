use Rattle.std.proofs.Common.{[], ap, length, subst, sym, ◌∙◌, ◌≤◌}
use Rattle.std.proofs.lemmas.List.{length-map}
use Rattle.resolution_laws.proofs.Bound.{start_length}
use Rattle.resolution_laws.specs.Resolutions.{IsCanonicalStart}
use Rattle.term_lists.specs.Rings.{ring_comparison, setting, variables}
use Rattle.term_lists.specs.Vectors.{sums_of}
use Rattle.resolution_maps.specs.Inducing.{maps_of}
use Rattle.resolution_maps.specs.Resolved.{AreJoined, AreVectorsThrough, HavePositions}
use Rattle.resolution_maps.proofs.Joining.{length-zeros, weighed_through}
use Rattle.schreyer_resolution.proofs.Places.{ranks_of}
use Rattle.schreyer_resolution.proofs.resolving.resolve_to.Goals as goal

pub joined_maps-requires-clause-weighed : goal.joined_maps-requires-clause-weighed
joined_maps-requires-clause-weighed c = weighed_through c.args.ring.now [] c.in-Ok.columns.items c.in-Ok.ensures.vectors

pub joined_maps-requires-clause-positions : goal.joined_maps-requires-clause-positions
joined_maps-requires-clause-positions c =
    subst (λ z. HavePositions z c.in-Ok.columns.items) (sym (ap length (c.deref.ensures.value ∙ c.in_ok-positions.ensures) ∙ length-zeros c.args.rank)) c.in-Ok.ensures.positions

pub returns-clause-start : goal.returns-clause-start
returns-clause-start c =
    let ring = c.args.ring.now in
    let n = variables ring in
    subst (λ z. IsCanonicalStart (setting ring n (ring_comparison ring n) c.args.rank) (sums_of n c.args.reduced.now) c.args.count (maps_of n z)) (sym c.in_ok-maps.ensures.columns) c.in-Ok.ensures.start

pub returns-clause-length : goal.returns-clause-length
returns-clause-length c = λ pos.
    let ring = c.args.ring.now in
    let n = variables ring in
    subst (λ z. z ≤ n)
    (length-map c.in-Ok.columns.items (sums_of n) ∙ ap length (sym c.in_ok-maps.ensures.columns) ∙ length-map c.in_ok-maps.maps.items (λ m. m.columns))
    (start_length (setting ring n (ring_comparison ring n) c.args.rank) (c.lawful_setting.ensures c.args.rank) (sums_of n c.args.reduced.now)
    (ranks_of ring c.args.rank c.args.reduced.now c.requires.positions) c.args.count (maps_of n c.in-Ok.columns.items) pos c.in-Ok.ensures.start)

pub returns-clause-vectors : goal.returns-clause-vectors
returns-clause-vectors c = subst (AreVectorsThrough c.args.ring.now []) (sym c.in_ok-maps.ensures.columns) c.in-Ok.ensures.vectors

pub returns-clause-joined : goal.returns-clause-joined
returns-clause-joined c = subst (λ z. AreJoined c.args.ring.now z c.in_ok-maps.maps.items) c.deref.ensures.value c.in_ok-maps.ensures.joined

pub start_maps-requires-clause-vectors : goal.start_maps-requires-clause-vectors
start_maps-requires-clause-vectors c = c.requires.vectors

pub start_maps-requires-clause-positions : goal.start_maps-requires-clause-positions
start_maps-requires-clause-positions c = c.requires.positions

pub start_maps-requires-clause-basis : goal.start_maps-requires-clause-basis
start_maps-requires-clause-basis c = c.requires.basis
