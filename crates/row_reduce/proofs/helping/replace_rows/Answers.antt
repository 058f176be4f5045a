use Rattle.std.proofs.Common.{arith, drop, length, subst, sym, take, ◌-◌, ◌≡◌, ◌≤◌}
use Rattle.std.proofs.lemmas.List.{length-drop, length-take-le}
use Rattle.pivot_table.specs.Law.{told}
use Rattle.dense_reduction.proofs.Claimed.{all_lost_stay}
use Rattle.dense_reduction.proofs.Naming.{follows_same, follows_trans}
use Rattle.dense_reduction.specs.LostRows.{IsLost}
use Rattle.dense_reduction.specs.Pivots.{ArePivots}
use Rattle.dense_reduction.specs.Rests.{rows_left}
use Rattle.dense_reduction.specs.Words.{AreRowsReady}
use Rattle.row_reduce.proofs.HelpedRows.{helped_empty, helped_none, helped_whole, pivots_start}
use Rattle.row_reduce.proofs.Lowered.{Each_range, helped_eight}
use Rattle.row_reduce.specs.Replaced.{AreReplaced}
use Rattle.row_reduce.specs.Room.{HasIdleRoom}
use Rattle.std.specs.List.{slice_range}
use Rattle.row_reduce.proofs.helping.replace_rows.Goals as goal

pub loop-from-init : goal.loop-from-init
loop-from-init c =
    let p = c.args.shared.modulus.now.value in
    let inputs = c.args.shared.inputs in
    let zeros = c.in_ok-vec.ensures.items_if_clones_equal (λ y e. e) in
    let own = pivots_start p c.args.columns inputs c.args.shared.rows.now c.new-2.result.items c.in_ok-vec.field-0.items c.new-2.ensures.items zeros in
    record {
      within = omega arith;
      seat = c.requires.seat;
      follows = follows_same (told c.args.seat.now);
      wide = own.count;
      own = own;
      idle = c.in_ok-room.ensures;
      helped = helped_none p c.args.columns inputs c.args.shared.rows.now (told c.args.seat.now) c.new-2.result.items c.new-2.ensures.items;
    }

pub replace_eight-requires-clause-lost : goal.replace_eight-requires-clause-lost
replace_eight-requires-clause-lost c =
    let rows = c.args.shared.rows.now in
    let old = told c.args.seat.now in
    let new = told c.loop-from.seat in
    let lost = c.args.lost.now in
    Each_range (IsLost rows new) lost c.loop-from.from c.min-to.result
    (all_lost_stay rows old new lost c.loop-from.invariant.follows c.requires.lost)

pub loop-from-preserved : goal.loop-from-preserved
loop-from-preserved c =
    let p = c.args.shared.modulus.now.value in
    let columns = c.args.columns in
    let inputs = c.args.shared.inputs in
    let rows = c.args.shared.rows.now in
    let lost = c.args.lost.now in
    let from = c.loop-from.from in
    let to = c.min-to.result in
    let v = c.loop-from.invariant in
    let done = c.in_ok-replace_eight.ensures in
    let new = c.replace_eight.new in
    let first = told c.args.seat.now in
    let old = told c.loop-from.seat in
    let now = told new.seat in
    let lt = c.loop-from-test.true in
    let least = c.min-to.ensures in
    let le : from ≤ to = omega (arith, lt, least) in
    let own : ArePivots p columns inputs (rows_left new.own.left.items) new.own.pivots.items =
    subst (λ m. ArePivots p m inputs (rows_left new.own.left.items) new.own.pivots.items) v.wide done.own in
    record {
      within = omega (arith, least);
      seat = c.replace_eight.ensures.seat;
      follows = follows_trans first old now v.follows c.replace_eight.ensures.follows;
      wide = own.count;
      own = own;
      idle = subst (λ m. HasIdleRoom m new.room) v.wide done.idle;
      helped =
          helped_eight p columns inputs rows lost first old now c.loop-from.own.left.items new.own.left.items from to le c.requires.lost
          v.follows c.replace_eight.ensures.follows v.helped
          (subst (λ m. AreReplaced p m inputs rows now (slice_range lost from to) c.loop-from.own.left.items new.own.left.items) v.wide done.replaced);
    }

pub loop-from-smaller : goal.loop-from-smaller
loop-from-smaller c =
    let lt = c.loop-from-test.true in
    let least = c.min-to.ensures in
    omega (arith, lt, least)

pub slice_bounds-replace_eight-count : goal.slice_bounds-replace_eight-count
slice_bounds-replace_eight-count c =
    let lt = c.loop-from-test.true in
    let least = c.min-to.ensures in
    omega (arith, lt, least)

pub replace_eight-requires-clause-few : goal.replace_eight-requires-clause-few
replace_eight-requires-clause-few c =
    let lost = c.args.lost.now in
    let from = c.loop-from.from in
    let to = c.min-to.result in
    let least = c.min-to.ensures in
    let size : length (take (to - from) (drop from lost)) ≡ to - from =
    length-take-le (to - from) (drop from lost) (omega (arith, length-drop from lost, least)) in
    omega (arith, size, least)

pub replace_eight-requires-clause-ready : goal.replace_eight-requires-clause-ready
replace_eight-requires-clause-ready c =
    let shared = c.args.shared in
    subst (λ m. AreRowsReady shared.modulus.now.value m shared.inputs shared.rows.now shared.claims.now.rows.leads.items shared.claims.now.rows.held.items)
    (sym c.loop-from.invariant.wide) c.requires.ready

pub replace_eight-requires-clause-own : goal.replace_eight-requires-clause-own
replace_eight-requires-clause-own c =
    let own = c.loop-from.own in
    subst (λ m. ArePivots c.args.shared.modulus.now.value m c.args.shared.inputs (rows_left own.left.items) own.pivots.items)
    (sym c.loop-from.invariant.wide) c.loop-from.invariant.own

pub replace_eight-requires-clause-idle : goal.replace_eight-requires-clause-idle
replace_eight-requires-clause-idle c = subst (λ m. HasIdleRoom m c.loop-from.room) (sym c.loop-from.invariant.wide) c.loop-from.invariant.idle

pub returns-then-lost-eq0-clause-helped : goal.returns-then-lost-eq0-clause-helped
returns-then-lost-eq0-clause-helped c =
    let shared = c.args.shared in
    helped_empty shared.modulus.now.value c.args.columns shared.inputs shared.rows.now (told c.args.seat.now) c.args.lost.now
    c.new.result.items c.if-lost-eq0.true c.new.ensures.items

pub returns-clause-helped : goal.returns-clause-helped
returns-clause-helped c =
    let shared = c.args.shared in
    helped_whole shared.modulus.now.value c.args.columns shared.inputs shared.rows.now (told c.loop-from.seat) c.args.lost.now
    c.loop-from.own.left.items c.loop-from.from c.loop-from-test.false c.loop-from.invariant.helped
