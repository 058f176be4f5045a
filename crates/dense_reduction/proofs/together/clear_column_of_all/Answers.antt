use Rattle.std.proofs.Common.{ap, arith, drop, get_or, length, sym, ◌+◌, ◌++◌, ◌<◌, ◌∙◌, ◌≡◌}
use Rattle.pivot_table.specs.Law.{told}
use Rattle.dense_reduction.proofs.Lanes.{all_zero, cleared_added, cleared_out, taken_out}
use Rattle.dense_reduction.proofs.Naming.{follows_same}
use Rattle.dense_reduction.proofs.OnTheWay.{ways_added, ways_none, ways_pushed}
use Rattle.dense_reduction.proofs.Steps.{pivot_entries}
use Rattle.dense_reduction.specs.Reductions.{IsPivotFor}
use Rattle.dense_reduction.specs.Rests.{rows_left}
use Rattle.row_matrix.specs.Rows.{shown_row_at}
use Rattle.dense_reduction.proofs.together.clear_column_of_all.Goals as goal

pub returns-then-eq-clause-cleared : goal.returns-then-eq-clause-cleared
returns-then-eq-clause-cleared c =
    let p = c.args.shared.modulus.now.value in
    let one : 1 < p = c.domain.ensures.above_one in
    let t = c.args.together.now in
    let r = c.take_residues-residues in
    let n : t.numbers.len ≡ length r.new.numbers = omega (arith, r.ensures.count, c.as_mut_slice.ensures.len, ap length c.as_mut_slice.ensures.value) in
    let out = taken_out p c.args.c t.numbers.len r.result t.numbers.items c.as_mut_slice.result.now r.new.numbers c.as_mut_slice.ensures.value n
    r.ensures.count r.ensures.residues r.ensures.taken in
    cleared_out p t.limit c.args.c (length c.args.own.now.pivots.items) r.result t.numbers.items _ (omega (arith, one)) c.requires.at out c.requires.cleared

pub returns-then-eq-clause-way : goal.returns-then-eq-clause-way
returns-then-eq-clause-way c = λ lost few h.
    let p = c.args.shared.modulus.now.value in
    let one : 1 < p = c.domain.ensures.above_one in
    let t = c.args.together.now in
    let r = c.take_residues-residues in
    let known = told c.args.seat.now in
    let n : t.numbers.len ≡ length r.new.numbers = omega (arith, r.ensures.count, c.as_mut_slice.ensures.len, ap length c.as_mut_slice.ensures.value) in
    let out = taken_out p c.args.c t.numbers.len r.result t.numbers.items c.as_mut_slice.result.now r.new.numbers c.as_mut_slice.ensures.value n
    r.ensures.count r.ensures.residues r.ensures.taken in
    ways_none p t.limit c.args.c (length c.args.own.now.pivots.items) c.args.shared.rows.now (rows_left c.args.own.now.left.items) c.args.own.now.pivots.items
    known known t.left.items t.numbers.items _ t.taken.items r.result lost (omega (arith, one)) c.requires.at few (follows_same known) out h
    (all_zero r.result (sym c.eq.ensures ∙ c.if-eq.true))

pub add_pivot_to_all-requires-clause-small : goal.add_pivot_to_all-requires-clause-small
add_pivot_to_all-requires-clause-small c =
    let p = c.args.shared.modulus.now.value in
    let one : 1 < p = c.domain.ensures.above_one in
    let t = c.args.together.now in
    let r = c.take_residues-residues in
    let n : t.numbers.len ≡ length r.new.numbers = omega (arith, r.ensures.count, c.as_mut_slice.ensures.len, ap length c.as_mut_slice.ensures.value) in
    let out = taken_out p c.args.c t.numbers.len r.result t.numbers.items c.as_mut_slice.result.now r.new.numbers c.as_mut_slice.ensures.value n
    r.ensures.count r.ensures.residues r.ensures.taken in
    (cleared_out p t.limit c.args.c (length c.args.own.now.pivots.items) r.result t.numbers.items _ (omega (arith, one)) c.requires.at out
    c.requires.cleared).small

pub returns-in_ok-push-in-None-clause-cleared : goal.returns-in_ok-push-in-None-clause-cleared
returns-in_ok-push-in-None-clause-cleared c =
    let p = c.args.shared.modulus.now.value in
    let one : 1 < p = c.domain.ensures.above_one in
    let t = c.args.together.now in
    let r = c.take_residues-residues in
    let n : t.numbers.len ≡ length r.new.numbers = omega (arith, r.ensures.count, c.as_mut_slice.ensures.len, ap length c.as_mut_slice.ensures.value) in
    let out = taken_out p c.args.c t.numbers.len r.result t.numbers.items c.as_mut_slice.result.now r.new.numbers c.as_mut_slice.ensures.value n
    r.ensures.count r.ensures.residues r.ensures.taken in
    cleared_out p t.limit c.args.c (length c.args.own.now.pivots.items) r.result t.numbers.items _ (omega (arith, one)) c.requires.at out c.requires.cleared

pub returns-in_ok-push-in-None-clause-way : goal.returns-in_ok-push-in-None-clause-way
returns-in_ok-push-in-None-clause-way c = λ lost few h.
    let p = c.args.shared.modulus.now.value in
    let one : 1 < p = c.domain.ensures.above_one in
    let t = c.args.together.now in
    let r = c.take_residues-residues in
    let pivots = c.args.own.now.pivots.items in
    let none : get_or pivots c.args.c 0 ≡ 0 = rw c.in-None.is at c.pivot_of.ensures.pivot in
    let n : t.numbers.len ≡ length r.new.numbers = omega (arith, r.ensures.count, c.as_mut_slice.ensures.len, ap length c.as_mut_slice.ensures.value) in
    let out = taken_out p c.args.c t.numbers.len r.result t.numbers.items c.as_mut_slice.result.now r.new.numbers c.as_mut_slice.ensures.value n
    r.ensures.count r.ensures.residues r.ensures.taken in
    ways_pushed p t.limit c.args.c (length pivots) c.args.shared.rows.now (rows_left c.args.own.now.left.items) pivots (told c.args.seat.now)
    (told c.pivot_of.new.seat) t.left.items t.numbers.items _ t.taken.items r.result lost (omega (arith, one)) c.requires.at few
    c.pivot_of.ensures.follows out h c.push.new.self.items none c.in_ok-push-in-None.ensures.items

pub returns-in_ok-add_pivot_to_all-in-Some-clause-cleared : goal.returns-in_ok-add_pivot_to_all-in-Some-clause-cleared
returns-in_ok-add_pivot_to_all-in-Some-clause-cleared c =
    let p = c.args.shared.modulus.now.value in
    let one : 1 < p = c.domain.ensures.above_one in
    let t = c.args.together.now in
    let r = c.take_residues-residues in
    let own = rows_left c.args.own.now.left.items in
    let columns = length c.args.own.now.pivots.items in
    let new = c.add_pivot_to_all.new.together in
    let e = c.add_pivot_to_all.ensures in
    let a = c.in_ok-add_pivot_to_all-in-Some.ensures.added in
    let pivot : IsPivotFor p c.args.shared.rows.now own (told c.pivot_of.new.seat) c.args.c c.in-Some.pivot = rw c.in-Some.is at c.pivot_of.ensures.pivot in
    let g = pivot_entries p c.args.c columns c.args.shared.inputs c.in-Some.pivot c.args.shared.rows.now own (told c.pivot_of.new.seat) c.requires.ready.monic
    c.requires.own.monic pivot in
    let n : t.numbers.len ≡ length r.new.numbers = omega (arith, r.ensures.count, c.as_mut_slice.ensures.len, ap length c.as_mut_slice.ensures.value) in
    let out = taken_out p c.args.c t.numbers.len r.result t.numbers.items c.as_mut_slice.result.now r.new.numbers c.as_mut_slice.ensures.value n
    r.ensures.count r.ensures.residues r.ensures.taken in
    cleared_added p t.limit new.limit (c.args.c + 1) columns (drop 1 (shown_row_at (c.args.shared.rows.now ++ own) c.in-Some.pivot).entries) r.result a.0 _
    new.numbers.items g.tail e.count e.room e.small a.2
    (cleared_out p t.limit c.args.c columns r.result t.numbers.items _ (omega (arith, one)) c.requires.at out c.requires.cleared)

pub returns-in_ok-add_pivot_to_all-in-Some-clause-way : goal.returns-in_ok-add_pivot_to_all-in-Some-clause-way
returns-in_ok-add_pivot_to_all-in-Some-clause-way c = λ lost few h.
    let p = c.args.shared.modulus.now.value in
    let one : 1 < p = c.domain.ensures.above_one in
    let t = c.args.together.now in
    let r = c.take_residues-residues in
    let own = rows_left c.args.own.now.left.items in
    let pivots = c.args.own.now.pivots.items in
    let new = c.add_pivot_to_all.new.together in
    let e = c.add_pivot_to_all.ensures in
    let a = c.in_ok-add_pivot_to_all-in-Some.ensures.added in
    let pivot : IsPivotFor p c.args.shared.rows.now own (told c.pivot_of.new.seat) c.args.c c.in-Some.pivot = rw c.in-Some.is at c.pivot_of.ensures.pivot in
    let n : t.numbers.len ≡ length r.new.numbers = omega (arith, r.ensures.count, c.as_mut_slice.ensures.len, ap length c.as_mut_slice.ensures.value) in
    let out = taken_out p c.args.c t.numbers.len r.result t.numbers.items c.as_mut_slice.result.now r.new.numbers c.as_mut_slice.ensures.value n
    r.ensures.count r.ensures.residues r.ensures.taken in
    ways_added p t.limit c.args.c (length pivots) c.args.shared.rows.now own pivots (told c.args.seat.now) (told c.pivot_of.new.seat)
    t.left.items t.numbers.items _ t.taken.items r.result lost (omega (arith, one)) c.requires.at few c.pivot_of.ensures.follows out h
    c.in-Some.pivot new.limit c.args.shared.inputs a.0 new.left.items new.numbers.items new.taken.items c.requires.ready.monic c.requires.own.monic pivot
    a.2 e.left a.1 e.room e.small

pub pivot_of-requires-clause-at : goal.pivot_of-requires-clause-at
pivot_of-requires-clause-at c = c.requires.at

pub pivot_of-requires-clause-ready : goal.pivot_of-requires-clause-ready
pivot_of-requires-clause-ready c = c.requires.ready

pub pivot_of-requires-clause-own : goal.pivot_of-requires-clause-own
pivot_of-requires-clause-own c = c.requires.own
