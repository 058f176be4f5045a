use Rattle.std.proofs.Common.{subst}
use Rattle.formal_sums.proofs.Sameness.{IsSame_append, IsSame_refl, IsSame_trans}
use Rattle.term_lists.specs.Rings.{variables}
use Rattle.term_lists.specs.Vectors.{StandsFor, sum_of}
use Rattle.column_passes.specs.Clearing.{MakeEntry, multiple_of}
use Rattle.column_passes.proofs.Clearings.{of_entry}
use Rattle.column_passes.proofs.clearing.cleared_vector.Goals as goal

pub returns-clause-sum : goal.returns-clause-sum
returns-clause-sum c =
    let ring = c.args.ring.now in
    let w = c.args.w.now in
    let v = c.args.v in
    let entry = c.in_ok-entry.entry.items in
    let made = subst (λ z. MakeEntry ring c.args.row z entry) c.terms.ensures c.in_ok-entry.ensures in
    let taken = of_entry ring c.args.row c.args.inverse w v entry c.in-Ok.taken made
    (subst (λ z. StandsFor ring c.in-Ok.taken (multiple_of ring c.args.row c.args.inverse w z)) c.deref.ensures.value c.in-Ok.ensures.sum) in
    IsSame_trans c.in_ok-sum_of_two.ensures.sum (IsSame_append (IsSame_refl ring.modulus.value (sum_of (variables ring) v)) taken)

pub multiple-requires-clause-inverse : goal.multiple-requires-clause-inverse
multiple-requires-clause-inverse c = c.requires.inverse

pub multiple-requires-clause-column : goal.multiple-requires-clause-column
multiple-requires-clause-column c = c.requires.column

pub sum_of_two-requires-clause-left : goal.sum_of_two-requires-clause-left
sum_of_two-requires-clause-left c = c.requires.vector

pub sum_of_two-requires-clause-right : goal.sum_of_two-requires-clause-right
sum_of_two-requires-clause-right c = c.in-Ok.ensures.vector

pub returns-clause-vector : goal.returns-clause-vector
returns-clause-vector c = c.in_ok-sum_of_two.ensures.vector
