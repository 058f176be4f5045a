use Rattle.std.proofs.Common.{subst}
use Rattle.formal_sums.proofs.Sameness.{IsSame_trans}
use Rattle.formal_sums.specs.FormalSums.{IsSame}
use Rattle.term_lists.specs.Rings.{variables}
use Rattle.constant_rows.specs.Rows.{entry_constants, row_constants}
use Rattle.column_passes.proofs.Clearings.{if_ok}
use Rattle.constant_passes.specs.Listing.{constants_at}
use Rattle.constant_passes.specs.Steps.{cleared_by_constants}
use Rattle.constant_passes.proofs.Entries.{left_over_is}
use Rattle.constant_passes.proofs.clearing.left_over.Goals as goal

pub returns-clause-left : goal.returns-clause-left
returns-clause-left c places h =
    let ring = c.args.ring.now in
    let n = variables ring in
    let p = ring.modulus.value in
    let steps = c.args.table.now.steps.items in
    let sums = c.clear.new.rows.sums.items in
    let V = cleared_by_constants ring steps (constants_at n places c.args.terms.now) in
    let cleared : IsSame p (row_constants n 0 sums) V =
    subst (λ z. IsSame p (row_constants n 0 sums) (cleared_by_constants ring steps z)) (c.in_ok-find_constants.ensures.constants places h)
    c.in_ok-clear.ensures.sum in
    if_ok c.take_constants.result (λ k. IsSame p (entry_constants n k.entries.items) (row_constants n 0 sums))
    (λ k. IsSame p (entry_constants n k.entries.items) V) (λ k same. IsSame_trans same cleared) (c.take_constants.ensures.sum n)

pub returns-clause-over : goal.returns-clause-over
returns-clause-over c =
    left_over_is c.args.ring.now c.take_constants.result c.take_constants.ensures.below c.take_constants.ensures.reduced
    (c.take_constants.ensures.coefficients (variables c.args.ring.now))
