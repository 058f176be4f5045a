use Rattle.std.proofs.Common.{List, [], drop, length, subst, sym, take, ◌+◌, ◌∙◌, ◌∷◌, ◌≡◌}
use Rattle.formal_sums.specs.FormalSums.{Each}
use Rattle.term_lists.proofs.Scaling.{take_item}
use Rattle.term_lists.specs.Rings.{variables}
use Rattle.basis_steps.specs.Divisions.{IsMonicMember, MakesMembers}
use Rattle.basis_steps.specs.States.{vectors}
use Rattle.member_products.specs.declared.member.Reduct.{Reduct}
use Rattle.basis_core.specs.Makings.{HaveMadeRows}
use Rattle.basis_core.specs.Members.{IsRunMember, MembersShown, Shared, member_of, members_of, setting_of}
use Rattle.basis_core.specs.RowDivision.{with_multiple}
use Rattle.basis_core.specs.Rows.{RowStops}
use Rattle.basis_core.proofs.MadeMembers.{made_monic, made_one, more_made, row_over, rows_split}
use Rattle.basis_core.proofs.putting.make_members.Goals as goal

pub make_member-requires-clause-over : goal.make_member-requires-clause-over
make_member-requires-clause-over c =
    let i = c.loop-row.row-index in
    subst (λ (s : Shared). IsRunMember s (length c.loop-row.members.list) (with_multiple c.row-item.result c.zero-none.result))
    (sym c.loop-row.invariant.shared)
    (row_over (variables c.args.members.now.shared.ring) c.args.members.now.shared c.args.members.now.list c.loop-row.members.list
    (take i c.args.rows.now) c.args.rows.now i c.row-item.result c.zero-none.result
    c.requires.over c.loop-row-test.true c.row-item.is c.zero-none.ensures c.loop-row.invariant.made)

pub make_member-requires-clause-monic : goal.make_member-requires-clause-monic
make_member-requires-clause-monic c =
    subst (λ (s : Shared). Each (IsMonicMember (setting_of (variables s.ring) s)) (vectors (members_of (variables s.ring) c.loop-row.members.list)))
    (sym c.loop-row.invariant.shared) c.loop-row.invariant.monic

pub returns-in-Err-clause-stop : goal.returns-in-Err-clause-stop
returns-in-Err-clause-stop c =
    let rows : List Reduct = c.args.rows.now in
    let row = c.row-item.result in
    let n = variables c.args.members.now.shared.ring in
    let same : c.make_member.new.members ≡ c.loop-row.members = c.in-Err.ensures.err in
    let made = subst (λ (l : MembersShown). HaveMadeRows n c.args.members.now.shared c.args.members.now.list (take c.loop-row.row-index rows) l.list) (sym same) c.loop-row.invariant.made in
    let stops =
    subst (λ (s : Shared). RowStops (variables s.ring) s.ring.weights c.loop-row.members.list row.vector c.in-Err.stop)
    c.loop-row.invariant.shared c.in-Err.ensures.stop in
    record {
      before = take c.loop-row.row-index rows;
      row = row;
      later = drop (c.loop-row.row-index + 1) rows;
      split = rows_split rows c.loop-row.row-index row c.loop-row-test.true c.row-item.is;
      made = made;
      stops = subst (λ (l : MembersShown). RowStops n c.args.members.now.shared.ring.weights l.list row.vector c.in-Err.stop) (sym same) stops;
    }

pub loop-row-preserved : goal.loop-row-preserved
loop-row-preserved c =
    let n = variables c.args.members.now.shared.ring in
    let shared : Shared = c.args.members.now.shared in
    let rows : List Reduct = c.args.rows.now in
    let row = c.row-item.result in
    let made = c.in_default.ensures.made in
    let one : HaveMadeRows n shared c.loop-row.members.list (row ∷ []) c.make_member.new.members.list =
    made_one n shared c.loop-row.members.list row c.zero-none.result made.0 c.make_member.new.members.list c.zero-none.ensures made.1
    (subst (λ (s : Shared). MakesMembers (setting_of (variables s.ring) s) (vectors (members_of (variables s.ring) c.loop-row.members.list))
    (member_of (variables s.ring) (with_multiple row c.zero-none.result) ∷ []) (members_of (variables s.ring) made.0))
    c.loop-row.invariant.shared made.2) in
    let all : HaveMadeRows n shared c.args.members.now.list (take (c.loop-row.row-index + 1) rows) c.make_member.new.members.list =
    subst (λ (l : List Reduct). HaveMadeRows n shared c.args.members.now.list l c.make_member.new.members.list)
    (sym (take_item rows c.loop-row.row-index row c.loop-row-test.true c.row-item.is))
    (more_made n shared c.args.members.now.list (take c.loop-row.row-index rows) c.loop-row.members.list
    (row ∷ []) c.make_member.new.members.list c.loop-row.invariant.made one) in
    record {
      shared = c.in_default.ensures.shared ∙ c.loop-row.invariant.shared;
      monic = made_monic n shared c.args.members.now.list _ c.make_member.new.members.list all c.requires.monic;
      made = all;
    }
