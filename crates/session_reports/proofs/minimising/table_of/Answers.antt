use Rattle.std.proofs.Common.{subst, sym}
use Rattle.bases.specs.Bases.{IsReducedBasis}
use Rattle.term_lists.specs.Rings.{ring_comparison, setting, variables}
use Rattle.term_lists.specs.Vectors.{sums_of}
use Rattle.session_reports.proofs.MinimalMaps.{graded_resolution, table_of_basis}
use Rattle.session_reports.proofs.Reporting.{own_basis}
use Rattle.session_reports.proofs.minimising.table_of.Goals as goal

pub resolve-requires-clause-basis : goal.resolve-requires-clause-basis
resolve-requires-clause-basis c =
    let ring = c.args.ring.now in
    let n = variables ring in
    subst (λ r. IsReducedBasis (setting ring n (ring_comparison ring n) r) (sums_of n c.args.basis.now) (sums_of n c.args.basis.now)) (sym c.from.ensures)
    (own_basis ring c.args.rank c.requires.basis.0 c.args.basis.now c.requires.basis.1 c.requires.basis.2).basis

pub betti_table-requires : goal.betti_table-requires
betti_table-requires c =
    graded_resolution c.args.ring.now c.args.rank c.from.result c.from.ensures c.requires.basis.0 c.args.basis.now c.requires.basis.2 c.requires.homogeneous
    c.in-Ok.resolution c.in-Ok.ensures.canonical c.in-Ok.ensures.vectors c.in-Ok.ensures.places c.in-Ok.ensures.joined

pub returns-clause-table : goal.returns-clause-table
returns-clause-table c =
    let told = c.in-Ok.ensures in
    table_of_basis c.args.ring.now c.args.rank c.from.result c.from.ensures c.requires.basis.0 c.args.basis.now c.requires.basis.2 c.requires.homogeneous
    c.in-Ok.resolution told.canonical told.vectors told.places told.joined c.in_ok-betti_table.field-0.items c.in_ok-betti_table.ensures
