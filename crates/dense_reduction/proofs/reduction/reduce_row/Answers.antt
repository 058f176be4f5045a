use Rattle.std.proofs.Common.{List, [], ap, arith, length, subst, subst₂, sym, ◌++◌, ◌<◌, ◌∙◌, ◌∷◌, ◌≡◌}
use Rattle.formal_sums.proofs.Combining.{Each_map}
use Rattle.formal_sums.proofs.WeightedSums.{Each_append}
use Rattle.pivot_table.specs.Law.{told}
use Rattle.row_matrix.specs.Rows.{AreEntries, IsRow, RowShown, first_column}
use Rattle.dense_reduction.proofs.Reducing.{zeros_idle}
use Rattle.dense_reduction.proofs.Steps.{gone_row, rest_row}
use Rattle.dense_reduction.specs.Reductions.{least_left}
use Rattle.dense_reduction.specs.Rests.{rows_left}
use Rattle.dense_reduction.specs.Underway.{IsLeftRow}
use Rattle.dense_reduction.proofs.reduction.reduce_row.Goals as goal

pub left_row-requires-clause-entries : goal.left_row-requires-clause-entries
left_row-requires-clause-entries c =
    subst (AreEntries c.args.shared.modulus.now.value 0 (length c.args.own.now.pivots.items)) (sym c.deref.ensures.value)
    c.in_ok-clear_columns.ensures.underway.entries

pub left_row-requires-clause-rows : goal.left_row-requires-clause-rows
left_row-requires-clause-rows c =
    let p = c.args.shared.modulus.now.value in
    let columns = length c.args.own.now.pivots.items in
    let own = rows_left c.args.own.now.left.items in
    Each_map (IsRow p columns c.args.shared.inputs) (λ (r : RowShown). AreEntries p 0 c.args.shared.inputs r.sources) (c.args.shared.rows.now ++ own)
    (λ r h. h.sources)
    (Each_append (IsRow p columns c.args.shared.inputs) c.args.shared.rows.now own c.requires.ready.monic c.requires.own.monic)

pub returns-in-None-clause-idle : goal.returns-in-None-clause-idle
returns-in-None-clause-idle c =
    let u = c.in_ok-clear_columns.ensures.underway in
    zeros_idle (length c.args.own.now.pivots.items) c.clear_columns.new.work.numbers.items u.numbered u.cleared

pub returns-in-None-clause-rest : goal.returns-in-None-clause-rest
returns-in-None-clause-rest c =
    let p = c.args.shared.modulus.now.value in
    let one : 1 < p = c.domain.ensures.above_one in
    let w = c.clear_columns.new.work in
    let own = rows_left c.args.own.now.left.items in
    let pivots = c.args.own.now.pivots.items in
    let e = c.in_ok-clear_columns.ensures in
    gone_row p (least_left c.args.row.now.entries c.args.pivot) w.limit (length pivots) c.args.shared.inputs
    (length (c.args.shared.rows.now ++ own)) (omega (arith, one)) c.args.shared.rows.now own
    (told c.clear_columns.new.seat) pivots c.args.row.now w.left.items w.numbers.items w.taken.items
    e.underway e.reduced (sym c.deref.ensures.value ∙ rw c.in-None.is at c.in_ok-left.ensures)

pub returns-in-Some-clause-idle : goal.returns-in-Some-clause-idle
returns-in-Some-clause-idle c =
    let u = c.in_ok-clear_columns.ensures.underway in
    zeros_idle (length c.args.own.now.pivots.items) c.clear_columns.new.work.numbers.items u.numbered u.cleared

pub returns-in-Some-clause-rest : goal.returns-in-Some-clause-rest
returns-in-Some-clause-rest c =
    let p = c.args.shared.modulus.now.value in
    let one : 1 < p = c.domain.ensures.above_one in
    let w = c.clear_columns.new.work in
    let own = rows_left c.args.own.now.left.items in
    let pivots = c.args.own.now.pivots.items in
    let e = c.in_ok-clear_columns.ensures in
    rest_row p (least_left c.args.row.now.entries c.args.pivot) w.limit (length pivots) c.args.shared.inputs
    (length (c.args.shared.rows.now ++ own)) (omega (arith, one)) c.args.shared.rows.now own
    (told c.clear_columns.new.seat) pivots c.args.row.now w.left.items w.numbers.items w.taken.items
    e.underway e.reduced c.in-Some.rest c.requires.own
    (subst₂ (λ left taken. IsLeftRow p (length pivots) c.args.shared.inputs (c.args.shared.rows.now ++ own) c.args.row.now left taken c.in-Some.rest)
    c.deref.ensures.value c.deref-2.ensures.value (rw c.in-Some.is at c.in_ok-left.ensures))

pub returns-in-None-clause-stays : goal.returns-in-None-clause-stays
returns-in-None-clause-stays c = λ none.
    let front = c.in_ok-clear_columns.ensures.front none in
    let gone : c.deref.result.now ≡ [] = rw c.in-None.is at c.in_ok-left.ensures in
    some_left (sym gone ∙ c.deref.ensures.value ∙ front.1)
  where
    some_left : {X : Type 0} {x : X} {xs : List X} → [] ≡ x ∷ xs → ⊥
    some_left e = cc

pub returns-in-Some-clause-stays : goal.returns-in-Some-clause-stays
returns-in-Some-clause-stays c = λ none.
    let p = c.args.shared.modulus.now.value in
    let rows = c.args.shared.rows.now ++ rows_left c.args.own.now.left.items in
    let columns = length c.args.own.now.pivots.items in
    let left : IsLeftRow p columns c.args.shared.inputs rows c.args.row.now c.deref.result.now c.deref-2.result.now c.in-Some.rest =
    rw c.in-Some.is at c.in_ok-left.ensures in
    left.first ∙ ap first_column (c.deref.ensures.value ∙ (c.in_ok-clear_columns.ensures.front none).1)

pub clear_columns-requires-clause-ready : goal.clear_columns-requires-clause-ready
clear_columns-requires-clause-ready c = c.requires.ready

pub clear_columns-requires-clause-own : goal.clear_columns-requires-clause-own
clear_columns-requires-clause-own c = c.requires.own

pub clear_columns-requires-clause-row : goal.clear_columns-requires-clause-row
clear_columns-requires-clause-row c = c.requires.row
