use Rattle.std.proofs.Common.{rules, subst, sym}
use Rattle.term_lists.proofs.Parts.{Each_drop, Each_take}
use Rattle.term_lists.specs.Vectors.{AreTermsOver}
use Rattle.column_passes.proofs.Clearings.{multiple_halves}
use Rattle.column_passes.proofs.clearing.+multiple.Goals as goal

pub multiple-requires : goal.multiple-requires
multiple-requires t c = (
  search rules,
  (
    c.requires.inverse,
    (c.requires.column, subst (AreTermsOver c.args.ring.now) (sym c.split_at.ensures.front) (Each_take _ _ c.args.terms.now c.requires.terms)),
  ),
)

pub multiple-requires-2 : goal.multiple-requires-2
multiple-requires-2 t c = (
  search rules,
  (
    c.requires.inverse,
    (c.requires.column, subst (AreTermsOver c.args.ring.now) (sym c.split_at.ensures.back) (Each_drop _ _ c.args.terms.now c.requires.terms)),
  ),
)

pub returns-clause-sum : goal.returns-clause-sum
returns-clause-sum t c =
    multiple_halves c.args.ring.now c.args.row c.args.inverse c.args.w.now _ c.args.terms.now _ _ _ _ _
    c.split_at.ensures.front c.split_at.ensures.back c.in-Ok.ensures.sum c.in-Ok-multiple.ensures.sum c.in_ok-sum_of_two.ensures.sum

pub small_multiple-requires-clause-inverse : goal.small_multiple-requires-clause-inverse
small_multiple-requires-clause-inverse t c = c.requires.inverse

pub small_multiple-requires-clause-column : goal.small_multiple-requires-clause-column
small_multiple-requires-clause-column t c = c.requires.column

pub small_multiple-requires-clause-terms : goal.small_multiple-requires-clause-terms
small_multiple-requires-clause-terms t c = c.requires.terms

pub sum_of_two-requires-clause-left : goal.sum_of_two-requires-clause-left
sum_of_two-requires-clause-left t c = c.in-Ok.ensures.vector

pub sum_of_two-requires-clause-right : goal.sum_of_two-requires-clause-right
sum_of_two-requires-clause-right t c = c.in-Ok-multiple.ensures.vector

pub returns-clause-vector : goal.returns-clause-vector
returns-clause-vector t c = c.in_ok-sum_of_two.ensures.vector
