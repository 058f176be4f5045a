use Rattle.std.proofs.Common.{[], arith, refl, subst, subst₂, sym}
use Rattle.resolution_laws.specs.Resolutions.{IsCanonicalStart}
use Rattle.term_lists.specs.Rings.{ring_comparison, setting, variables}
use Rattle.term_lists.specs.Vectors.{sums_of}
use Rattle.resolution_maps.specs.Inducing.{maps_of}
use Rattle.resolution_maps.specs.Resolved.{AreVectorsThrough, HavePositions}
use Rattle.schreyer_resolution.proofs.FirstMaps.{none_at_all, some_at_all}
use Rattle.schreyer_resolution.proofs.Starting.{start_none}
use Rattle.schreyer_resolution.proofs.resolving.start_maps.Goals as goal

pub returns-then-count-eq0-clause-start : goal.returns-then-count-eq0-clause-start
returns-then-count-eq0-clause-start c =
    let ring = c.args.ring.now in
    let n = variables ring in
    let S = setting ring n (ring_comparison ring n) c.args.rank in
    let A = sums_of n c.args.reduced.now in
    subst₂ (λ k z. IsCanonicalStart S A k (maps_of n z)) (sym c.if-count-eq0.true) (sym c.new.ensures.items) refl

pub returns-then-count-eq0-clause-vectors : goal.returns-then-count-eq0-clause-vectors
returns-then-count-eq0-clause-vectors c = subst (AreVectorsThrough c.args.ring.now []) (sym c.new.ensures.items) tt

pub returns-then-count-eq0-clause-positions : goal.returns-then-count-eq0-clause-positions
returns-then-count-eq0-clause-positions c = subst (HavePositions c.args.rank) (sym c.new.ensures.items) tt

pub returns-then-is_empty-clause-start : goal.returns-then-is_empty-clause-start
returns-then-is_empty-clause-start c =
    let ring = c.args.ring.now in
    let n = variables ring in
    subst (λ z. IsCanonicalStart (setting ring n (ring_comparison ring n) c.args.rank) (sums_of n c.args.reduced.now) c.args.count (maps_of n z)) (sym c.new-then-is_empty.ensures.items)
    (start_none ring c.args.rank c.args.reduced.now c.args.count (none_at_all c.args.reduced.now c.if-is_empty.ensures))

pub returns-then-is_empty-clause-vectors : goal.returns-then-is_empty-clause-vectors
returns-then-is_empty-clause-vectors c = subst (AreVectorsThrough c.args.ring.now []) (sym c.new-then-is_empty.ensures.items) tt

pub returns-then-is_empty-clause-positions : goal.returns-then-is_empty-clause-positions
returns-then-is_empty-clause-positions c = subst (HavePositions c.args.rank) (sym c.new-then-is_empty.ensures.items) tt

pub first_maps-requires-clause-some : goal.first_maps-requires-clause-some
first_maps-requires-clause-some c = some_at_all c.args.reduced.now c.if-is_empty.ensures

pub first_maps-requires-clause-vectors : goal.first_maps-requires-clause-vectors
first_maps-requires-clause-vectors c = c.requires.vectors

pub first_maps-requires-clause-positions : goal.first_maps-requires-clause-positions
first_maps-requires-clause-positions c = c.requires.positions

pub first_maps-requires-clause-basis : goal.first_maps-requires-clause-basis
first_maps-requires-clause-basis c = c.requires.basis

pub start_behind-requires-clause-positions : goal.start_behind-requires-clause-positions
start_behind-requires-clause-positions c = c.requires.positions

pub start_behind-requires-clause-some : goal.start_behind-requires-clause-some
start_behind-requires-clause-some c = let some = c.if-count-eq0.false in omega arith
