use Rattle.std.proofs.Common.{arith, ◌+◌}
use Rattle.resolution_laws.proofs.Starts.{start_fewer}
use Rattle.resolution_laws.specs.Resolutions.{IsCanonical, IsCanonicalStart}
use Rattle.term_lists.specs.Rings.{ring_comparison, setting, variables}
use Rattle.term_lists.specs.Vectors.{sums_of}
use Rattle.resolution_maps.specs.Inducing.{maps_of}
use Rattle.resolution_maps.specs.Resolved.{columns_of}
use Rattle.resolution_maps.proofs.Joining.{if_more}
use Rattle.schreyer_resolution.proofs.Lengths.{start_few}
use Rattle.schreyer_resolution.proofs.Places.{ranks_of}
use Rattle.schreyer_resolution.proofs.resolving.resolve.Goals as goal

pub returns-clause-canonical : goal.returns-clause-canonical
returns-clause-canonical c =
    let ring = c.args.ring.now in
    let n = variables ring in
    let S = setting ring n (ring_comparison ring n) c.args.rank in
    let A = sums_of n c.args.reduced.now in
    let count = c.len.result + 2 in
    if_more (λ r. IsCanonicalStart S A count (maps_of n (columns_of r))) (λ r. IsCanonical S A (maps_of n (columns_of r))) c.resolve_to.result
    (λ r start. start_fewer S A count (maps_of n (columns_of r)) start
    (let few = start_few S (c.lawful_setting.ensures c.args.rank) A (ranks_of ring c.args.rank c.args.reduced.now c.requires.positions) count (maps_of n (columns_of r)) start in
    let as_many = c.len.ensures in
    omega (arith, few, as_many)))
    c.resolve_to.ensures.start

pub resolve_to-requires-clause-vectors : goal.resolve_to-requires-clause-vectors
resolve_to-requires-clause-vectors c = c.requires.vectors

pub resolve_to-requires-clause-positions : goal.resolve_to-requires-clause-positions
resolve_to-requires-clause-positions c = c.requires.positions

pub resolve_to-requires-clause-basis : goal.resolve_to-requires-clause-basis
resolve_to-requires-clause-basis c = c.requires.basis
