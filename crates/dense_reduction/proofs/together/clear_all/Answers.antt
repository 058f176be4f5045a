use Rattle.std.proofs.Common.{ap, arith, get_or, length, subst, sym, ℕ, ◌+◌, ◌<◌, ◌∙◌, ◌≡◌, ◌≤◌}
use Rattle.pivot_table.specs.Law.{told}
use Rattle.dense_reduction.proofs.Lanes.{cleared_idle, cleared_skip}
use Rattle.dense_reduction.proofs.Naming.{follows_same, follows_trans}
use Rattle.dense_reduction.proofs.OnTheWay.{ways_skip}
use Rattle.dense_reduction.specs.Eights.{AreCleared, lane}
use Rattle.dense_reduction.specs.Rests.{rows_left}
use Rattle.dense_reduction.specs.Together.{AreOnTheirWay}
use Rattle.dense_reduction.proofs.together.clear_all.Goals as goal

pub loop-c-init : goal.loop-c-init
loop-c-init c =
    let p = c.args.shared.modulus.now.value in
    let rows = c.args.shared.rows.now in
    let own = rows_left c.args.own.now.left.items in
    let pivots = c.args.own.now.pivots.items in
    let columns = length pivots in
    let known = told c.args.seat.now in
    let t = c.start_rows.new.together in
    let s = c.start_rows.ensures in
    let next = c.next_column_of_all-c.ensures in
    let zeros : (j i : ℕ) → j < 8 → 0 ≤ i → i < c.next_column_of_all-c.result → get_or (lane j t.numbers.items) i 0 ≡ 0 = λ j i q le lt.
    ap (λ xs. get_or (lane j xs) i 0) (sym c.as_slice.ensures.value) ∙ next.zeros j i q le lt in
    record {
      within = next.within;
      seat = c.requires.seat;
      follows = follows_same known;
      cleared = cleared_skip p t.limit 0 c.next_column_of_all-c.result columns t.numbers.items zeros
          (subst (λ m. AreCleared p t.limit 0 m t.numbers.items) c.requires.idle.0 s.cleared);
      way = ways_skip p t.limit 0 c.next_column_of_all-c.result columns rows own pivots known t.left.items t.numbers.items t.taken.items c.args.lost.now
          c.requires.few next.from zeros
          (subst (λ m. AreOnTheirWay p t.limit 0 m rows own pivots known t.left.items t.numbers.items t.taken.items 0 c.args.lost.now) c.requires.idle.0
          (s.way own pivots known c.requires.lost));
    }

pub loop-c-preserved : goal.loop-c-preserved
loop-c-preserved c =
    let p = c.args.shared.modulus.now.value in
    let rows = c.args.shared.rows.now in
    let own = rows_left c.args.own.now.left.items in
    let pivots = c.args.own.now.pivots.items in
    let columns = length pivots in
    let known = told c.clear_column_of_all.new.seat in
    let t = c.clear_column_of_all.new.together in
    let v = c.loop-c.invariant in
    let e = c.in_ok-clear_column_of_all.ensures in
    let d = c.next_column_of_all-c-in-loop-c.result in
    let next = c.next_column_of_all-c-in-loop-c.ensures in
    let zeros : (j i : ℕ) → j < 8 → c.loop-c.c + 1 ≤ i → i < d → get_or (lane j t.numbers.items) i 0 ≡ 0 = λ j i q le lt.
    ap (λ xs. get_or (lane j xs) i 0) (sym c.as_slice-in-loop-c.ensures.value) ∙ next.zeros j i q le lt in
    record {
      within = next.within;
      seat = e.seat;
      follows = follows_trans (told c.args.seat.now) (told c.loop-c.seat) known v.follows e.follows;
      cleared = cleared_skip p t.limit (c.loop-c.c + 1) d columns t.numbers.items zeros e.cleared;
      way = ways_skip p t.limit (c.loop-c.c + 1) d columns rows own pivots known t.left.items t.numbers.items t.taken.items c.args.lost.now
          c.requires.few next.from zeros (e.way c.args.lost.now c.requires.few v.way);
    }

pub returns-clause-idle : goal.returns-clause-idle
returns-clause-idle c =
    let t = c.loop-c.together in
    let columns = length c.args.own.now.pivots.items in
    let v = c.loop-c.invariant in
    let done : c.loop-c.c ≡ columns = omega (arith, v.within, c.loop-c-test.false, c.requires.columns) in
    cleared_idle c.args.shared.modulus.now.value t.limit columns t.numbers.items
    (subst (λ m. AreCleared c.args.shared.modulus.now.value t.limit m columns t.numbers.items) done v.cleared)

pub start_rows-requires-clause-few : goal.start_rows-requires-clause-few
start_rows-requires-clause-few c = c.requires.few

pub clear_column_of_all-requires-clause-ready : goal.clear_column_of_all-requires-clause-ready
clear_column_of_all-requires-clause-ready c = c.requires.ready

pub clear_column_of_all-requires-clause-own : goal.clear_column_of_all-requires-clause-own
clear_column_of_all-requires-clause-own c = c.requires.own
