use Rattle.std.proofs.Common.{[], eqb-true, length, sym, ◌∙◌, ◌≡◌}
use Rattle.term_lists.specs.Rings.{variables}
use Rattle.vector_division.specs.Reductions.{cofactors_of}
use Rattle.basis_core.proofs.Leaving.{none_of_length, nothing_left}
use Rattle.basis_core.proofs.row_division.divide_row.Goals as goal

pub returns-then-is_empty-clause-left : goal.returns-then-is_empty-clause-left
returns-then-is_empty-clause-left c =
    let shared = c.args.members.now.shared in
    let qs = c.in-Ok.reduction.quotients.items in
    let empty : c.terms.result.now ≡ [] = none_of_length c.terms.result.now (eqb-true (length c.terms.result.now) 0 (sym c.if-is_empty.ensures)) in (
      cofactors_of (variables shared.ring) qs,
      nothing_left shared c.args.members.now.list c.args.row.now c.args.multiple.now qs c.kept.ensures c.requires.over c.in-Ok.ensures.quotients
          c.in-Ok.reduction.rest (sym c.terms.ensures ∙ empty) c.in-Ok.ensures.rest,
    )

pub monic_member-requires-clause-over : goal.monic_member-requires-clause-over
monic_member-requires-clause-over c = c.requires.over

pub monic_member-requires-clause-monic : goal.monic_member-requires-clause-monic
monic_member-requires-clause-monic c = c.requires.monic
