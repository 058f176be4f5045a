use Rattle.std.proofs.Common.{ap, arith, get_or, inr, length, subst, ◌<◌, ◌∙◌, ◌≡◌}
use Rattle.formal_sums.proofs.Combining.{Each_map}
use Rattle.pivot_table.specs.Law.{told}
use Rattle.row_matrix.specs.Rows.{Entry, first_column}
use Rattle.dense_reduction.proofs.Entries.{entries_within, first_below, monic_entries}
use Rattle.dense_reduction.proofs.Reducing.{first_column_read}
use Rattle.dense_reduction.proofs.Steps.{first_free}
use Rattle.dense_reduction.specs.Reductions.{HasPivot}
use Rattle.dense_reduction.specs.Rests.{rows_left}
use Rattle.row_reduce.proofs.HelpedRows.{pivots_left}
use Rattle.row_reduce.proofs.Lowered.{itself_lowered, lowered_of_rest, pivots_kept}
use Rattle.row_reduce.proofs.helping.keep_rest.Goals as goal

pub meets_own-requires : goal.meets_own-requires
meets_own-requires c =
    let p = c.args.shared.modulus.now.value in
    let columns = length c.args.own.now.pivots.items in
    let es = c.args.rest.entries in
    Each_map (λ (e : Entry). (e.0 < columns) × (e.1 < p)) (λ (e : Entry). e.0 < columns) es (λ e h. h.0)
    (entries_within p 0 columns es c.requires.rest.entries)

pub keep_left-requires-clause-within : goal.keep_left-requires-clause-within
keep_left-requires-clause-within c =
    let rest = c.requires.rest in
    first_below c.args.shared.modulus.now.value (length c.args.own.now.pivots.items) c.args.rest.entries rest.entries rest.monic

pub returns-then-not-meets_own-clause-own : goal.returns-then-not-meets_own-clause-own
returns-then-not-meets_own-clause-own c =
    let p = c.args.shared.modulus.now.value in
    let own = c.args.own.now in
    let pivots = own.pivots.items in
    let r = c.args.rest in
    let rest = c.requires.rest in
    let new = c.keep_left.new.own in
    let m = monic_entries p 0 (length pivots) r.entries rest.entries rest.monic in
    pivots_kept p (length pivots) c.args.shared.inputs c.args.shared.rows.now own.left.items new.left.items c.args.number r pivots new.pivots.items
    c.requires.own rest (first_free pivots r.entries m.2 (c.meets_own.ensures c.if-not-meets_own.true))
    c.in_ok-keep_left.ensures.left c.in_ok-keep_left.ensures.pivots

pub returns-then-not-meets_own-clause-kept : goal.returns-then-not-meets_own-clause-kept
returns-then-not-meets_own-clause-kept c =
    let p = c.args.shared.modulus.now.value in
    let own = c.args.own.now in
    let pivots = own.pivots.items in
    let r = c.args.rest in
    let rest = c.requires.rest in
    let m = monic_entries p 0 (length pivots) r.entries rest.entries rest.monic in
    inr (
      r,
      c.in_ok-keep_left.ensures.left,
      itself_lowered p (length pivots) c.args.shared.inputs c.args.shared.rows.now (rows_left own.left.items)
          (told c.args.seat.now) pivots r c.requires.own rest (first_free pivots r.entries m.2 (c.meets_own.ensures c.if-not-meets_own.true)),
    )

pub own_pivot-pivot-requires-clause-at : goal.own_pivot-pivot-requires-clause-at
own_pivot-pivot-requires-clause-at c =
    let es = c.args.rest.entries in
    let rest = c.requires.rest in
    let at : (get_or c.entries.result.now 0 (0, 0)).0 ≡ first_column es = first_column_read c.entries.result.now ∙ ap first_column c.entries.ensures in
    let lt = first_below c.args.shared.modulus.now.value (length c.args.own.now.pivots.items) es rest.entries rest.monic in
    omega (arith, at, lt)

pub reduce_row-requires-clause-pivot : goal.reduce_row-requires-clause-pivot
reduce_row-requires-clause-pivot c =
    let own = c.args.own.now in
    let es = c.args.rest.entries in
    let known = told c.args.seat.now in
    let at : (get_or c.entries.result.now 0 (0, 0)).0 ≡ first_column es = first_column_read c.entries.result.now ∙ ap first_column c.entries.ensures in
    subst (λ x. HasPivot c.args.shared.modulus.now.value c.args.shared.rows.now (rows_left own.left.items) own.pivots.items known x c.own_pivot-pivot.result)
    at (c.own_pivot-pivot.ensures known)

pub keep_left-requires-in-Some-clause-within : goal.keep_left-requires-in-Some-clause-within
keep_left-requires-in-Some-clause-within c =
    let rest = rw c.in-Some.is at c.in_ok-reduce_row.ensures.rest in
    first_below c.args.shared.modulus.now.value (length c.args.own.now.pivots.items) c.in-Some.row.entries rest.good.entries rest.good.monic

pub returns-clause-own : goal.returns-clause-own
returns-clause-own c =
    let own = c.args.own.now in
    let new = c.keep_left-in-Some.new.own in
    let rest = rw c.in-Some.is at c.in_ok-reduce_row.ensures.rest in
    pivots_left c.args.shared.modulus.now.value (length own.pivots.items) c.args.shared.inputs c.args.shared.rows.now own.left.items new.left.items
    (told c.reduce_row.new.seat) c.args.number c.in-Some.row own.pivots.items new.pivots.items
    c.requires.own rest c.in_ok-keep_left-in-Some.ensures.left c.in_ok-keep_left-in-Some.ensures.pivots

pub returns-clause-kept : goal.returns-clause-kept
returns-clause-kept c =
    let own = c.args.own.now in
    let rest = rw c.in-Some.is at c.in_ok-reduce_row.ensures.rest in
    inr (
      c.in-Some.row,
      c.in_ok-keep_left-in-Some.ensures.left,
      lowered_of_rest c.args.shared.modulus.now.value (length own.pivots.items) c.args.shared.inputs c.args.shared.rows.now (rows_left own.left.items)
          (told c.reduce_row.new.seat) c.args.rest c.in-Some.row c.own_pivot-pivot.result rest,
    )
