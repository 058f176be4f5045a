use Rattle.std.proofs.Common.{◌∙◌}
use Rattle.basis_core.proofs.Starting.{beginning_kept}
use Rattle.basis_core.proofs.beginning.beginning_trail.Goals as goal

pub returns : goal.returns
returns c =
    let over = c.in_ok-kept.ensures in
    beginning_kept c.args.members.now.shared c.args.members.now.list c.args.row.now.vector c.args.number c.args.trail.products.items c.args.trail.last
    c.in_ok-kept.kept
    c.requires.known c.requires.vector c.requires.makes c.kept.ensures c.requires.trail
    over.ring over.rank over.generators over.below over.start_is
    (over.vector_is ∙ c.in_ok-vector.ensures) over.members over.products_are over.last_is
