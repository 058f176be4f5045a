use Rattle.std.proofs.Common.{subst}
use Rattle.term_lists.specs.Rings.{variables}
use Rattle.basis_core.specs.Rows.{RowStops}
use Rattle.basis_core.proofs.beginning.beginning_stop.Goals as goal

pub beginning_trail-requires-clause-known : goal.beginning_trail-requires-clause-known
beginning_trail-requires-clause-known c = c.requires.known

pub beginning_trail-requires-clause-vector : goal.beginning_trail-requires-clause-vector
beginning_trail-requires-clause-vector c = c.requires.vector

pub beginning_trail-requires-clause-makes : goal.beginning_trail-requires-clause-makes
beginning_trail-requires-clause-makes c = c.requires.makes

pub beginning_trail-requires-clause-trail : goal.beginning_trail-requires-clause-trail
beginning_trail-requires-clause-trail c =
    subst (RowStops (variables c.args.members.now.shared.ring) c.args.members.now.shared.ring.weights c.args.members.now.list c.args.row.now.vector)
    c.in-Degree.is c.requires.row
