use Rattle.std.proofs.Common.{ap, get_or, length, subst, sym, ◌++◌, ◌∙◌, ◌∷◌, []}
use Rattle.pivot_table.specs.Law.{told}
use Rattle.row_matrix.specs.Rows.{IsRow}
use Rattle.dense_reduction.proofs.Entries.{first_below}
use Rattle.dense_reduction.specs.Pivots.{ArePivots}
use Rattle.dense_reduction.specs.Rests.{rows_left}
use Rattle.dense_reduction.specs.Underway.{AreIdle}
use Rattle.row_reduce.proofs.Lowered.{pivots_kept}
use Rattle.row_reduce.proofs.ReducedTails.{next_free, next_listed, next_row, one_done, tail_kept}
use Rattle.row_reduce.specs.Tails.{HasTailReduced}
use Rattle.row_reduce.proofs.tails.keep_each.Goals as goal

pub reduced_row-requires-clause-row : goal.reduced_row-requires-clause-row
reduced_row-requires-clause-row c =
    let p = c.args.shared.modulus.now.value in
    let v = c.loop-row.invariant in
    subst (λ m. IsRow p m c.args.shared.inputs c.in-Some.row) (sym v.wide)
    (next_row v.reduced.0 c.loop-row.rest.items c.pop_front.new.self.items c.args.rows.items c.in-Some.row v.reduced.1 c.in-Some.ensures.items
    (IsRow p c.args.columns c.args.shared.inputs) c.requires.rows)

pub reduced_row-requires-clause-free : goal.reduced_row-requires-clause-free
reduced_row-requires-clause-free c =
    let p = c.args.shared.modulus.now.value in
    let columns = c.args.columns in
    let inputs = c.args.shared.inputs in
    let v = c.loop-row.invariant in
    let own = c.loop-row.own in
    let done = v.reduced.0 in
    let rest = c.loop-row.rest.items in
    let rest' = c.pop_front.new.self.items in
    let rows = c.args.rows.items in
    let row = c.in-Some.row in
    next_free p columns inputs (told c.loop-row.seat) done (rows_left own.left.items) rest' rows row own.pivots.items v.reduced.2 v.own
    (next_listed done rest rest' rows row v.reduced.1 c.in-Some.ensures.items)
    (next_row done rest rest' rows row v.reduced.1 c.in-Some.ensures.items (IsRow p columns inputs) c.requires.rows) c.requires.apart

pub keep_left-requires-clause-within : goal.keep_left-requires-clause-within
keep_left-requires-clause-within c =
    let good = c.in_ok-reduced.ensures.reduced.1.good in
    first_below c.args.shared.modulus.now.value (length c.loop-row.own.pivots.items) c.in_ok-reduced.reduced.entries good.entries good.monic

pub loop-row-preserved : goal.loop-row-preserved
loop-row-preserved c =
    let p = c.args.shared.modulus.now.value in
    let columns = c.args.columns in
    let inputs = c.args.shared.inputs in
    let none = c.args.shared.rows.now in
    let v = c.loop-row.invariant in
    let own = c.loop-row.own in
    let new = c.keep_left.new.own in
    let done = v.reduced.0 in
    let rest = c.loop-row.rest.items in
    let rest' = c.pop_front.new.self.items in
    let rows = c.args.rows.items in
    let row = c.in-Some.row in
    let r = c.in_ok-reduced.reduced in
    let old = told c.loop-row.seat in
    let now = told c.reduced_row.new.seat in
    let kept = c.in_ok-keep_left.ensures in
    let listed = next_listed done rest rest' rows row v.reduced.1 c.in-Some.ensures.items in
    let good = next_row done rest rest' rows row v.reduced.1 c.in-Some.ensures.items (IsRow p columns inputs) c.requires.rows in
    let free = next_free p columns inputs old done (rows_left own.left.items) rest' rows row own.pivots.items v.reduced.2 v.own listed good c.requires.apart in
    let tail = subst (λ m. HasTailReduced p m inputs none (rows_left own.left.items) now row r) v.wide c.in_ok-reduced.ensures.reduced in
    let pivots : ArePivots p columns inputs (rows_left new.left.items) new.pivots.items =
    pivots_kept p columns inputs none own.left.items new.left.items 0 r own.pivots.items new.pivots.items v.own tail.1.good
    (ap (λ x. get_or own.pivots.items x 0) tail.0 ∙ free) kept.left kept.pivots in
    record {
      seat = c.reduced_row.ensures.seat;
      wide = pivots.count;
      own = pivots;
      idle = subst (λ m. AreIdle m c.reduced_row.new.work.numbers.items) v.wide c.in_ok-reduced.ensures.idle;
      reduced = (
        done ++ row ∷ [],
        one_done done rest rest' rows row v.reduced.1 c.in-Some.ensures.items,
        tail_kept p columns inputs old now done none row r own.left.items new.left.items c.reduced_row.ensures.follows v.reduced.2 c.requires.none tail
            kept.left,
      );
    }
