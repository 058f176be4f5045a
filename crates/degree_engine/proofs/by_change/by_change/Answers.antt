use Rattle.degree_engine.proofs.Resorting.{basis_itself, changed_basis}
use Rattle.degree_engine.proofs.by_change.by_change.Goals as goal

pub convert-requires : goal.convert-requires
convert-requires g c =
    basis_itself c.in_ok-graded.graded 1 c.in_ok-resorted.resorted c.in_ok-basis.basis (c.lawful_setting-2.ensures 1) c.in_ok-basis.ensures.basis

pub returns : goal.returns
returns g c =
    changed_basis c.args.ring.now c.in_ok-graded.graded c.args.list.now c.in_ok-resorted.resorted c.in_ok-basis.basis c.in_ok-changed.changed
    c.in_ok-graded.ensures (c.lawful_setting.ensures 1) c.in_ok-resorted.ensures.same (c.have_positions.ensures c.if-not-have_positions.false)
    (c.lawful_setting-2.ensures 1)
    c.in_ok-basis.ensures.basis c.in_ok-changed.ensures.basis
