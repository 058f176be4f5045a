use Rattle.std.proofs.Common.{length, subst}
use Rattle.std.proofs.lemmas.List.{get_or_default}
use Rattle.pivot_table.specs.Law.{told}
use Rattle.row_matrix.specs.Rows.{RowShown, first_column, no_row}
use Rattle.dense_reduction.proofs.Entries.{first_below}
use Rattle.dense_reduction.proofs.Steps.{pivot_told}
use Rattle.dense_reduction.specs.Pivots.{lead_column}
use Rattle.dense_reduction.specs.Reductions.{IsPivotFor}
use Rattle.dense_reduction.specs.Rests.{rows_left}
use Rattle.row_reduce.proofs.HelpedRows.{pivots_left}
use Rattle.row_reduce.proofs.helping.replace_row.Goals as goal

pub keep_left-requires-clause-within : goal.keep_left-requires-clause-within
keep_left-requires-clause-within c =
    let rest = rw c.in-Some.is at c.in_ok-rest.ensures.rest in
    first_below c.args.shared.modulus.now.value (length c.args.own.now.pivots.items) c.in-Some.row.entries rest.good.entries rest.good.monic

pub returns-in_ok-keep_left-in-Some-clause-own : goal.returns-in_ok-keep_left-in-Some-clause-own
returns-in_ok-keep_left-in-Some-clause-own c =
    let rest = rw c.in-Some.is at c.in_ok-rest.ensures.rest in
    let own = c.args.own.now in
    let new = c.keep_left.new.own in
    pivots_left c.args.shared.modulus.now.value (length own.pivots.items) c.args.shared.inputs c.args.shared.rows.now
    own.left.items new.left.items (told c.reduce_row.new.seat) c.args.lost.now.number c.in-Some.row own.pivots.items new.pivots.items
    c.requires.own rest c.in_ok-keep_left-in-Some.ensures.left c.in_ok-keep_left-in-Some.ensures.pivots

pub reduce_row-requires-clause-pivot : goal.reduce_row-requires-clause-pivot
reduce_row-requires-clause-pivot c =
    let rows = c.args.shared.rows.now in
    let own = rows_left c.args.own.now.left.items in
    let l = c.args.lost.now in
    let lost = c.requires.lost in
    let r = c.index-shared-lost.result in
    subst (λ (x : RowShown). IsPivotFor c.args.shared.modulus.now.value rows own (told c.args.seat.now) (first_column x.entries) l.winner)
    (get_or_default rows l.number no_row r lost.known)
    (pivot_told c.args.shared.modulus.now.value (lead_column rows l.number) l.winner rows own (told c.args.seat.now) lost.held)
