use Rattle.std.proofs.Common.{replicate, subst, sym}
use Rattle.bases.specs.Bases.{IsReducedBasis}
use Rattle.term_lists.specs.Rings.{ring_comparison, setting, variables}
use Rattle.term_lists.specs.Vectors.{sums_of}
use Rattle.session_reports.proofs.MinimalMaps.{cancellation_stops, cancelled_as, graded_resolution, presents_basis}
use Rattle.session_reports.proofs.Reporting.{own_basis}
use Rattle.session_reports.proofs.minimising.minimal_of.Goals as goal

pub resolve-requires-clause-basis : goal.resolve-requires-clause-basis
resolve-requires-clause-basis c =
    let ring = c.args.ring.now in
    let n = variables ring in
    subst (λ r. IsReducedBasis (setting ring n (ring_comparison ring n) r) (sums_of n c.args.basis.now) (sums_of n c.args.basis.now)) (sym c.from.ensures)
    (own_basis ring c.args.rank c.requires.basis.0 c.args.basis.now c.requires.basis.1 c.requires.basis.2).basis

pub minimal-requires : goal.minimal-requires
minimal-requires c =
    graded_resolution c.args.ring.now c.args.rank c.from.result c.from.ensures c.requires.basis.0 c.args.basis.now c.requires.basis.2 c.requires.homogeneous
    c.in-Ok.resolution c.in-Ok.ensures.canonical c.in-Ok.ensures.vectors c.in-Ok.ensures.places c.in-Ok.ensures.joined

pub returns-clause-cancelled : goal.returns-clause-cancelled
returns-clause-cancelled c =
    let ring = c.args.ring.now in
    let basis = c.args.basis.now in
    let list = c.requires.basis.0 in
    let reduced = c.requires.basis.2 in
    let one = c.requires.homogeneous in
    let r = c.in-Ok.resolution in
    let told = c.in-Ok.ensures in
    let presented = presents_basis ring c.args.rank c.from.result c.from.ensures list basis reduced one r told.canonical told.vectors told.places told.joined in
    cancelled_as ring c.args.rank c.from.result c.from.ensures list basis reduced one r told.canonical told.vectors told.places told.joined c.minimal.result
    c.minimal.ensures.cancelled c.minimal.ensures.minimal (c.minimal.ensures.presents (replicate c.args.rank 0) (sums_of (variables ring) basis) presented)
    c.minimal.ensures.joined c.minimal.ensures.vectors

pub returns-clause-stop : goal.returns-clause-stop
returns-clause-stop c =
    let told = c.in-Ok.ensures in
    cancellation_stops c.args.ring.now c.args.rank c.from.result c.from.ensures c.requires.basis.0 c.args.basis.now c.requires.basis.2 c.requires.homogeneous
    c.in-Ok.resolution told.canonical told.vectors told.places told.joined c.minimal.result c.minimal.ensures.stop
