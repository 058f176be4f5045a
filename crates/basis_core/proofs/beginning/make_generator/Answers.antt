use Rattle.std.proofs.Common.{[], get_or, subst, sym, ◌≡◌}
use Rattle.term_lists.specs.Rings.{variables}
use Rattle.term_lists.specs.declared.ring.Ring.{Ring}
use Rattle.member_products.specs.Generators.{IsVectorOf}
use Rattle.basis_core.proofs.Starting.{generator_member, made_monic, made_more}
use Rattle.basis_core.specs.Beginning.{HaveMade, IsUnitMultiple}
use Rattle.basis_core.specs.Members.{MembersShown}
use Rattle.basis_core.specs.Rows.{RowStops}
use Rattle.basis_core.proofs.beginning.make_generator.Goals as goal

pub make_member-requires-clause-over : goal.make_member-requires-clause-over
make_member-requires-clause-over c =
    generator_member c.args.members.now.shared c.args.members.now.list c.args.number c.in_ok-row.row c.in_ok-multiple.multiple
    c.generators.ensures.over c.requires.known c.in_ok-row.ensures.vector c.in_ok-row.ensures.products
    (subst (λ (x : Ring). IsVectorOf x c.in_ok-multiple.multiple) c.ring.ensures c.in_ok-multiple.ensures.vector)
    (subst (λ (x : Ring). IsUnitMultiple x c.args.number c.in_ok-multiple.multiple) c.ring.ensures c.in_ok-multiple.ensures.unit)

pub make_member-requires-clause-monic : goal.make_member-requires-clause-monic
make_member-requires-clause-monic c = made_monic c.args.members.now.shared c.args.number c.args.members.now.list c.requires.makes

pub returns-in-Ok-clause-makes : goal.returns-in-Ok-clause-makes
returns-in-Ok-clause-makes c =
    let r = c.in-Ok.ensures.made in
    made_more c.args.members.now.shared c.args.number c.args.members.now.list r.0 c.make_member.new.members.list c.in_ok-row.row
    c.in_ok-multiple.multiple c.requires.known c.requires.makes
    c.in_ok-row.ensures.vector c.in_ok-row.ensures.products
    (subst (λ (x : Ring). IsVectorOf x c.in_ok-multiple.multiple) c.ring.ensures c.in_ok-multiple.ensures.vector)
    (subst (λ (x : Ring). IsUnitMultiple x c.args.number c.in_ok-multiple.multiple) c.ring.ensures c.in_ok-multiple.ensures.unit)
    r.1 r.2

pub beginning_stop-requires-clause-makes : goal.beginning_stop-requires-clause-makes
beginning_stop-requires-clause-makes c =
    subst (λ (l : MembersShown). HaveMade l.shared c.args.number l.list) (sym c.in-Err.ensures.err) c.requires.makes

pub beginning_stop-requires-clause-vector : goal.beginning_stop-requires-clause-vector
beginning_stop-requires-clause-vector c =
    subst (λ (l : MembersShown). c.in_ok-row.row.vector ≡ get_or l.shared.generators c.args.number []) (sym c.in-Err.ensures.err) c.in_ok-row.ensures.vector

pub beginning_stop-requires-clause-row : goal.beginning_stop-requires-clause-row
beginning_stop-requires-clause-row c =
    subst (λ (l : MembersShown). RowStops (variables l.shared.ring) l.shared.ring.weights l.list c.in_ok-row.row.vector c.in-Err.stop)
    (sym c.in-Err.ensures.err)
    c.in-Err.ensures.stop
