use Rattle.std.proofs.Common.{rules}
use Rattle.std.specs.Prelude.{codes, string_bytes}
use Rattle.session_reports.proofs.MinimalMaps.{minimal_shown}
use Rattle.session_reports.proofs.Reporting.{maps_variables}
use Rattle.session_values.specs.Writing.{resolution_written}
use Rattle.session_reports.proofs.minimising.push_minimal.Goals as goal

pub append_resolution-written-requires : goal.append_resolution-written-requires
append_resolution-written-requires c = maps_variables c.args.ring.now c.in-Ok.resolution.maps.items c.in-Ok.ensures.cancelled.vectors

pub returns-in-Ok-whole_or_none-clause-reports : goal.returns-in-Ok-whole_or_none-clause-reports
returns-in-Ok-whole_or_none-clause-reports c = λ list positions reduced kept. (
  resolution_written c.args.ring.now (codes "minres") (string_bytes c.args.info.now.name) c.in-Ok.resolution.maps.items,
  minimal_shown c.args.ring.now c.args.info.now list c.args.basis.now kept c.in-Ok.resolution reduced c.in-Ok.ensures.cancelled,
  search rules,
)

pub minimal_of-requires-clause-basis : goal.minimal_of-requires-clause-basis
minimal_of-requires-clause-basis c = c.requires

pub minimal_of-requires-clause-homogeneous : goal.minimal_of-requires-clause-homogeneous
minimal_of-requires-clause-homogeneous c = c.is_inhomogeneous.ensures.none c.if-is_inhomogeneous.false

pub returns-in-Err-clause-stop : goal.returns-in-Err-clause-stop
returns-in-Err-clause-stop c = c.in-Err.ensures.stop
