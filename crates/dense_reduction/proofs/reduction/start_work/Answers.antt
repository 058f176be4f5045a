use Rattle.std.proofs.Common.{[], ap, ap₂, arith, drop, get_or, length, subst, sym, ◌+◌, ◌++◌, ◌<◌, ◌∙◌, ◌∷◌, ◌≡◌}
use Rattle.residues.specs.Residues.{IsCongruent}
use Rattle.row_matrix.specs.Rows.{first_column, shown_row_at}
use Rattle.dense_reduction.proofs.Clearing.{factor_cancels, pivot_row}
use Rattle.dense_reduction.proofs.Entries.{monic_entries}
use Rattle.dense_reduction.proofs.Reducing.{dense_start, first_column_read, idle_zeros, start_underway, stays_underway}
use Rattle.dense_reduction.proofs.Steps.{first_cleared, first_stays}
use Rattle.dense_reduction.specs.Dense.{IsDense}
use Rattle.dense_reduction.specs.Reductions.{IsPivotFor}
use Rattle.dense_reduction.specs.Rests.{rows_left}
use Rattle.dense_reduction.proofs.reduction.start_work.Goals as goal

pub add_tail-work-requires-clause-entries : goal.add_tail-work-requires-clause-entries
add_tail-work-requires-clause-entries c =
    let es = c.args.row.now.entries in
    let numbers = c.args.work.now.numbers.items in
    (first_column es + 1, (monic_entries c.args.shared.modulus.now.value 0 (length numbers) es c.requires.row.entries c.requires.row.monic).1)

pub add_tail-work-requires-clause-small : goal.add_tail-work-requires-clause-small
add_tail-work-requires-clause-small c =
    let numbers = c.args.work.now.numbers.items in
    subst (IsDense c.first_limit.result) (sym (idle_zeros (length numbers) numbers c.requires.idle))
    (dense_start c.args.shared.modulus.now.value c.first_limit.result (length numbers) c.domain.ensures.above_one c.first_limit.ensures.room)

pub returns-in_ok-push-in-None-clause-underway : goal.returns-in_ok-push-in-None-clause-underway
returns-in_ok-push-in-None-clause-underway c =
    let p = c.args.shared.modulus.now.value in
    let numbers = c.args.work.now.numbers.items in
    let rows = c.args.shared.rows.now ++ rows_left c.args.own.now.left.items in
    let es = c.args.row.now.entries in
    let m = monic_entries p 0 (length numbers) es c.requires.row.entries c.requires.row.monic in
    let at : (get_or c.entries.result.now 0 (0, 0)).0 ≡ first_column es = first_column_read c.entries.result.now ∙ ap first_column c.entries.ensures in
    let tail = c.add_tail-work in
    stays_underway p tail.result (first_column es) (length numbers) (length rows) c.args.own.now.pivots.items (drop 1 es) numbers tail.new.numbers.items
    c.push.new.self.items c.clear-2.new.self.items c.domain.ensures.above_one m.1 (idle_zeros (length numbers) numbers c.requires.idle) tail.ensures.adds
    (rw c.in-None.is at c.requires.pivot.1) (c.in_ok-push-in-None.ensures.items ∙ ap₂ (λ ls k. ls ++ (k, 1) ∷ []) c.clear.ensures.items at)
    c.clear-2.ensures.items tail.ensures.room tail.ensures.small

pub returns-in_ok-push-in-None-clause-reduced : goal.returns-in_ok-push-in-None-clause-reduced
returns-in_ok-push-in-None-clause-reduced c = λ told is.
    let p = c.args.shared.modulus.now.value in
    let numbers = c.args.work.now.numbers.items in
    let es = c.args.row.now.entries in
    let m = monic_entries p 0 (length numbers) es c.requires.row.entries c.requires.row.monic in
    let at : (get_or c.entries.result.now 0 (0, 0)).0 ≡ first_column es = first_column_read c.entries.result.now ∙ ap first_column c.entries.ensures in
    let tail = c.add_tail-work in
    rw c.in-None.is
    (first_stays p (first_column es) (length numbers) c.args.shared.rows.now (rows_left c.args.own.now.left.items) told c.args.row.now numbers
    tail.new.numbers.items c.push.new.self.items c.clear-2.new.self.items m.0 (idle_zeros (length numbers) numbers c.requires.idle) tail.ensures.adds
    (c.in_ok-push-in-None.ensures.items ∙ ap₂ (λ ls k. ls ++ (k, 1) ∷ []) c.clear.ensures.items at) c.clear-2.ensures.items)

pub returns-in_ok-add_pivot-in-Some-clause-underway : goal.returns-in_ok-add_pivot-in-Some-clause-underway
returns-in_ok-add_pivot-in-Some-clause-underway c =
    let p = c.args.shared.modulus.now.value in
    let numbers = c.args.work.now.numbers.items in
    let own = rows_left c.args.own.now.left.items in
    let rows = c.args.shared.rows.now ++ own in
    let es = c.args.row.now.entries in
    let k = c.in-Some.pivot in
    let is : IsPivotFor p c.args.shared.rows.now own c.requires.pivot.0 (first_column es) k = rw c.in-Some.is at c.requires.pivot.1 in
    let g = pivot_row p (first_column es) (length numbers) c.args.shared.inputs rows k c.requires.rows is.known is.lead in
    let m = monic_entries p 0 (length numbers) es c.requires.row.entries c.requires.row.monic in
    let e = c.add_pivot.ensures in
    let new = c.add_pivot.new.work in
    start_underway p new.limit (first_column es) (length numbers) (length rows) k c.neg.result c.args.own.now.pivots.items
    (drop 1 es) (drop 1 (shown_row_at rows k).entries) numbers c.add_tail-work.new.numbers.items new.numbers.items new.left.items new.taken.items
    m.1 g.tail (idle_zeros (length numbers) numbers c.requires.idle) c.add_tail-work.ensures.adds e.adds is.known c.neg.ensures.small
    (e.left ∙ c.clear.ensures.items) (c.in_ok-add_pivot-in-Some.ensures.taken ∙ ap (λ ts. ts ++ (k, c.neg.result) ∷ []) c.clear-2.ensures.items)
    e.room e.small

pub returns-in_ok-add_pivot-in-Some-clause-reduced : goal.returns-in_ok-add_pivot-in-Some-clause-reduced
returns-in_ok-add_pivot-in-Some-clause-reduced c = λ told pivot.
    let p = c.args.shared.modulus.now.value in
    let one : 1 < p = c.domain.ensures.above_one in
    let numbers = c.args.work.now.numbers.items in
    let own = rows_left c.args.own.now.left.items in
    let rows = c.args.shared.rows.now ++ own in
    let es = c.args.row.now.entries in
    let k = c.in-Some.pivot in
    let is : IsPivotFor p c.args.shared.rows.now own told (first_column es) k = rw c.in-Some.is at pivot in
    let g = pivot_row p (first_column es) (length numbers) c.args.shared.inputs rows k c.requires.rows is.known is.lead in
    let m = monic_entries p 0 (length numbers) es c.requires.row.entries c.requires.row.monic in
    let e = c.add_pivot.ensures in
    let new = c.add_pivot.new.work in
    rw c.in-Some.is
    (first_cleared p (first_column es) (length numbers) k c.neg.result c.args.shared.rows.now own told c.args.row.now
    (drop 1 (shown_row_at rows k).entries) numbers c.add_tail-work.new.numbers.items new.numbers.items new.left.items new.taken.items
    (omega (arith, one)) is m.0 g.entries (idle_zeros (length numbers) numbers c.requires.idle) c.add_tail-work.ensures.adds e.adds
    (subst (λ x. IsCongruent p (x + 1) 0) (sym c.neg.ensures.value) (factor_cancels p 1 one))
    (e.left ∙ c.clear.ensures.items) (c.in_ok-add_pivot-in-Some.ensures.taken ∙ ap (λ ts. ts ++ (k, c.neg.result) ∷ []) c.clear-2.ensures.items))
