use Rattle.std.proofs.Common.{[], ap, arith, get_or, length, subst, sym, ℕ, ◌+◌, ◌++◌, ◌<◌, ◌∙◌, ◌≡◌, ◌≤◌}
use Rattle.pivot_table.specs.Law.{told}
use Rattle.row_matrix.specs.Rows.{first_column}
use Rattle.dense_reduction.proofs.Clearing.{underway_skip}
use Rattle.dense_reduction.proofs.Entries.{first_below}
use Rattle.dense_reduction.proofs.Naming.{follows_same, follows_trans}
use Rattle.dense_reduction.proofs.Reducing.{first_column_read}
use Rattle.dense_reduction.proofs.Steps.{least_below}
use Rattle.dense_reduction.specs.Reductions.{least_left}
use Rattle.dense_reduction.specs.Rests.{rows_left}
use Rattle.dense_reduction.specs.Underway.{IsRowUnderway}
use Rattle.dense_reduction.proofs.reduction.clear_columns.Goals as goal

pub overflow_add-entries : goal.overflow_add-entries
overflow_add-entries c =
    let es = c.args.row.now.entries in
    let at : (get_or c.entries.result.now 0 (0, 0)).0 ≡ first_column es = first_column_read c.entries.result.now ∙ ap first_column c.entries.ensures in
    let lt : first_column es < length c.args.own.now.pivots.items =
    first_below c.args.shared.modulus.now.value (length c.args.own.now.pivots.items) es c.requires.row.entries c.requires.row.monic in
    record { fits = omega (arith, at, lt, c.requires.columns, c.ranges.columns.fits) }

pub next_column-c-requires-clause-columns : goal.next_column-c-requires-clause-columns
next_column-c-requires-clause-columns c =
    let numbered = c.in_ok-start_work.ensures.underway.numbered in
    c.requires.columns ∙ sym c.requires.idle.0 ∙ sym numbered ∙ ap length (sym c.as_slice.ensures.value)

pub next_column-c-requires-clause-from : goal.next_column-c-requires-clause-from
next_column-c-requires-clause-from c =
    let es = c.args.row.now.entries in
    let at : (get_or c.entries.result.now 0 (0, 0)).0 ≡ first_column es = first_column_read c.entries.result.now ∙ ap first_column c.entries.ensures in
    let lt : first_column es < length c.args.own.now.pivots.items =
    first_below c.args.shared.modulus.now.value (length c.args.own.now.pivots.items) es c.requires.row.entries c.requires.row.monic in
    omega (arith, at, lt, c.requires.columns)

pub start_work-requires-clause-pivot : goal.start_work-requires-clause-pivot
start_work-requires-clause-pivot c = (told c.args.seat.now, c.requires.pivot)

pub loop-c-init : goal.loop-c-init
loop-c-init c =
    let p = c.args.shared.modulus.now.value in
    let w = c.start_work.new.work in
    let pivots = c.args.own.now.pivots.items in
    let columns = length pivots in
    let count = length (c.args.shared.rows.now ++ rows_left c.args.own.now.left.items) in
    let first = first_column c.args.row.now.entries in
    let next = c.next_column-c.ensures in
    let at : (get_or c.entries.result.now 0 (0, 0)).0 ≡ first = first_column_read c.entries.result.now ∙ ap first_column c.entries.ensures in
    let from : first + 1 ≤ c.next_column-c.result = omega (arith, at, next.from) in
    let zeros : (j : ℕ) → first + 1 ≤ j → j < c.next_column-c.result → get_or w.numbers.items j 0 ≡ 0 = λ j le lt.
    ap (λ xs. get_or xs j 0) (sym c.as_slice.ensures.value) ∙ next.zeros j (omega (arith, at, le)) lt in
    record {
      above = omega (arith, from);
      within = next.within;
      seat = c.requires.seat;
      follows = follows_same (told c.args.seat.now);
      underway = underway_skip p w.limit (first + 1) c.next_column-c.result columns count pivots w.left.items w.numbers.items w.taken.items
          (subst (λ m. IsRowUnderway p w.limit (first + 1) m count pivots w.left.items w.numbers.items w.taken.items) c.requires.idle.0
          c.in_ok-start_work.ensures.underway) from zeros;
      reduced = c.in_ok-start_work.ensures.reduced (told c.args.seat.now) c.requires.pivot;
      front = λ none. ([], c.in_ok-start_work.ensures.first none);
    }

pub loop-c-preserved : goal.loop-c-preserved
loop-c-preserved c =
    let w = c.clear_column.new.work in
    let pivots = c.args.own.now.pivots.items in
    let count = length (c.args.shared.rows.now ++ rows_left c.args.own.now.left.items) in
    let e = c.in_ok-clear_column.ensures in
    let v = c.loop-c.invariant in
    let next = c.next_column-c-in-loop-c.ensures in
    let zeros : (j : ℕ) → c.loop-c.c + 1 ≤ j → j < c.next_column-c-in-loop-c.result → get_or w.numbers.items j 0 ≡ 0 = λ j le lt.
    ap (λ xs. get_or xs j 0) (sym c.as_slice-in-loop-c.ensures.value) ∙ next.zeros j le lt in
    record {
      above = omega (arith, v.above, next.from);
      within = next.within;
      seat = e.seat;
      follows = follows_trans (told c.args.seat.now) (told c.loop-c.seat) (told c.clear_column.new.seat) v.follows e.follows;
      underway = underway_skip c.args.shared.modulus.now.value w.limit (c.loop-c.c + 1) c.next_column-c-in-loop-c.result (length pivots) count pivots
          w.left.items w.numbers.items w.taken.items e.underway next.from zeros;
      reduced =
          let from = least_left c.args.row.now.entries c.args.pivot in
          e.reduced from c.args.row.now (omega (arith, v.above, least_below c.args.row.now.entries c.args.pivot)) v.reduced;
      front = λ none.
          let before = v.front none in
          (before.0 ++ e.front.0, e.front.1 ∙ ap (λ es. es ++ e.front.0) before.1);
    }

pub clear_column-requires-clause-ready : goal.clear_column-requires-clause-ready
clear_column-requires-clause-ready c = c.requires.ready

pub clear_column-requires-clause-own : goal.clear_column-requires-clause-own
clear_column-requires-clause-own c = c.requires.own
