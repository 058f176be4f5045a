use Rattle.std.proofs.Common.{[], inr, refl, subst, ◌∷◌}
use Rattle.term_lists.specs.Rings.{variables}
use Rattle.basis_core.specs.Members.{member_of}
use Rattle.basis_core.specs.RowDivision.{IsMemberLeft, with_multiple}
use Rattle.basis_core.proofs.row_division.make_member.Goals as goal

pub returns-in_ok-push-in-Ok-Some-clause-made : goal.returns-in_ok-push-in-Ok-Some-clause-made
returns-in_ok-push-in-Ok-Some-clause-made c =
    let shared = c.args.members.now.shared in
    let m = c.in-Ok-Some.member in
    let left = subst (IsMemberLeft shared c.args.members.now.list (with_multiple c.args.row.now c.args.multiple.now))
    c.in-Ok-Some.field-0-is c.in-Ok-Some.ensures.left in
    (m ∷ [], c.in_ok-push-in-Ok-Some.ensures.ok, inr (left.1.0, left.1.1, left.1.2, member_of (variables shared.ring) m, [], left.1.3, refl, refl))
