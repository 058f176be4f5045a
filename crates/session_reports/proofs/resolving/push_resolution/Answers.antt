use Rattle.std.proofs.Common.{[], rules, subst, sym}
use Rattle.std.specs.Prelude.{codes, string_bytes}
use Rattle.bases.specs.Bases.{IsReducedBasis}
use Rattle.term_lists.specs.Rings.{ring_comparison, setting, variables}
use Rattle.term_lists.specs.Vectors.{sums_of}
use Rattle.session_reports.proofs.Reporting.{own_basis, resolution_shown, through_variables}
use Rattle.session_values.specs.Writing.{resolution_written}
use Rattle.session_reports.proofs.resolving.push_resolution.Goals as goal

pub resolve-requires-clause-basis : goal.resolve-requires-clause-basis
resolve-requires-clause-basis c =
    let ring = c.args.ring.now in
    let n = variables ring in
    subst (λ r. IsReducedBasis (setting ring n (ring_comparison ring n) r) (sums_of n c.args.basis.now) (sums_of n c.args.basis.now)) (sym c.from.ensures)
    (own_basis ring c.args.info.now.rank c.requires.0 c.args.basis.now c.requires.1 c.requires.2).basis

pub append_resolution-written-requires : goal.append_resolution-written-requires
append_resolution-written-requires c = through_variables c.args.ring.now [] c.in-Ok.resolution.maps.items c.in-Ok.ensures.vectors

pub returns-in-Ok-whole_or_none-clause-reports : goal.returns-in-Ok-whole_or_none-clause-reports
returns-in-Ok-whole_or_none-clause-reports c = λ list positions reduced kept.
    let ring = c.args.ring.now in
    let n = variables ring in (
      resolution_written ring (codes "res") (string_bytes c.args.info.now.name) c.in-Ok.resolution.maps.items,
      resolution_shown ring c.args.info.now list c.args.basis.now kept c.from.result c.in-Ok.resolution c.from.ensures reduced
          c.in-Ok.ensures.canonical c.in-Ok.ensures.vectors c.in-Ok.ensures.joined c.in-Ok.ensures.places,
      search rules,
    )
