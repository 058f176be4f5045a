use Rattle.std.proofs.Common.{arith, get_or, length, subst, sym, ◌<◌}
use Rattle.pivot_table.specs.Law.{told}
use Rattle.dense_reduction.proofs.Claimed.{lost_at}
use Rattle.dense_reduction.proofs.Naming.{follows_trans}
use Rattle.dense_reduction.specs.Pivots.{ArePivots}
use Rattle.dense_reduction.specs.Rests.{rows_left}
use Rattle.dense_reduction.specs.Underway.{AreIdle}
use Rattle.dense_reduction.specs.Words.{AreRowsReady}
use Rattle.dense_reduction.specs.declared.lefts.Lost.{Lost}
use Rattle.row_reduce.proofs.Lowered.{replaced_next}
use Rattle.row_reduce.specs.Replaced.{IsReplaced}
use Rattle.row_reduce.proofs.helping.replace_each.Goals as goal

pub replace_row-requires-clause-ready : goal.replace_row-requires-clause-ready
replace_row-requires-clause-ready c =
    let shared = c.args.shared in
    subst (λ m. AreRowsReady shared.modulus.now.value m shared.inputs shared.rows.now shared.claims.now.rows.leads.items shared.claims.now.rows.held.items)
    (sym c.loop-one.invariant.wide) c.requires.ready

pub replace_row-requires-clause-own : goal.replace_row-requires-clause-own
replace_row-requires-clause-own c =
    let own = c.loop-one.own in
    subst (λ m. ArePivots c.args.shared.modulus.now.value m c.args.shared.inputs (rows_left own.left.items) own.pivots.items)
    (sym c.loop-one.invariant.wide) c.loop-one.invariant.own

pub replace_row-requires-clause-idle : goal.replace_row-requires-clause-idle
replace_row-requires-clause-idle c = subst (λ m. AreIdle m c.loop-one.work.numbers.items) (sym c.loop-one.invariant.wide) c.loop-one.invariant.idle

pub replace_row-requires-clause-lost : goal.replace_row-requires-clause-lost
replace_row-requires-clause-lost c =
    let lost = c.args.lost.now in
    let i = c.loop-one.one-index in
    let lt : i < length lost = omega (arith, c.loop-one-test.true) in
    lost_at c.args.shared.rows.now (told c.args.seat.now) (told c.loop-one.seat) lost i (record { number = 0; winner = 0 })
    c.loop-one.invariant.follows c.requires.lost lt

pub loop-one-preserved : goal.loop-one-preserved
loop-one-preserved c =
    let p = c.args.shared.modulus.now.value in
    let columns = length c.args.own.now.pivots.items in
    let inputs = c.args.shared.inputs in
    let rows = c.args.shared.rows.now in
    let lost = c.args.lost.now in
    let i = c.loop-one.one-index in
    let d : Lost = record { number = 0; winner = 0 } in
    let v = c.loop-one.invariant in
    let done = c.in_ok-replace_row.ensures in
    let lt : i < length lost = omega (arith, c.loop-one-test.true) in
    let new = c.replace_row.new in
    let own : ArePivots p columns inputs (rows_left new.own.left.items) new.own.pivots.items =
    subst (λ m. ArePivots p m inputs (rows_left new.own.left.items) new.own.pivots.items) v.wide done.own in
    record {
      seat = c.replace_row.ensures.seat;
      follows = follows_trans (told c.args.seat.now) (told c.loop-one.seat) (told new.seat) v.follows c.replace_row.ensures.follows;
      wide = own.count;
      own = own;
      idle = subst (λ m. AreIdle m new.work.numbers.items) v.wide done.idle;
      replaced =
          replaced_next p columns inputs rows (told c.loop-one.seat) (told new.seat) lost i d c.args.own.now.left.items c.loop-one.own.left.items
          new.own.left.items lt c.replace_row.ensures.follows v.replaced
          (subst (λ m. IsReplaced p m inputs rows (told new.seat) (get_or lost i d) c.loop-one.own.left.items new.own.left.items) v.wide done.replaced);
    }
