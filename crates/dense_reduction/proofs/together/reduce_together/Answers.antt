use Rattle.std.proofs.Common.{length, subst, sym, ◌++◌, ◌<◌}
use Rattle.formal_sums.proofs.Combining.{Each_map}
use Rattle.formal_sums.proofs.WeightedSums.{Each_append}
use Rattle.formal_sums.specs.FormalSums.{Each}
use Rattle.pivot_table.specs.Law.{told}
use Rattle.row_matrix.specs.Rows.{IsRow}
use Rattle.dense_reduction.specs.LostRows.{IsLost}
use Rattle.dense_reduction.specs.Pivots.{ArePivots}
use Rattle.dense_reduction.specs.Rests.{rows_left}
use Rattle.dense_reduction.specs.Together.{AreOnTheirWay, AreRests}
use Rattle.dense_reduction.specs.declared.lefts.Lost.{Lost}
use Rattle.dense_reduction.proofs.together.reduce_together.Goals as goal

pub rests_of-requires-clause-known : goal.rests_of-requires-clause-known
rests_of-requires-clause-known c =
    let rows = c.args.shared.rows.now in
    Each_map (IsLost rows (told c.args.seat.now)) (λ (l : Lost). l.number < length rows) c.args.lost.now (λ l h. h.known) c.requires.lost

pub rests_of-requires-clause-rows : goal.rests_of-requires-clause-rows
rests_of-requires-clause-rows c =
    let p = c.args.shared.modulus.now.value in
    let inputs = c.args.shared.inputs in
    let rows = c.args.shared.rows.now in
    let own = rows_left c.args.own.now.left.items in
    let columns = length c.args.own.now.pivots.items in
    subst (λ m. Each (IsRow p m inputs) (rows ++ own)) (sym c.in_ok-clear_all.ensures.idle.0)
    (Each_append (IsRow p columns inputs) rows own c.requires.ready.monic c.requires.own.monic)

pub rests_of-requires-clause-own : goal.rests_of-requires-clause-own
rests_of-requires-clause-own c =
    let own = c.args.own.now in
    subst (λ m. ArePivots c.args.shared.modulus.now.value m c.args.shared.inputs (rows_left own.left.items) own.pivots.items)
    (sym c.in_ok-clear_all.ensures.idle.0) c.requires.own

pub rests_of-requires-clause-way : goal.rests_of-requires-clause-way
rests_of-requires-clause-way c =
    let own = c.args.own.now in
    let new = c.clear_all.new.together in
    let known = told c.clear_all.new.seat in (
      known,
      subst (λ m. AreOnTheirWay c.args.shared.modulus.now.value new.limit m m c.args.shared.rows.now (rows_left own.left.items) own.pivots.items
          known new.left.items new.numbers.items new.taken.items 0 c.args.lost.now)
          (sym c.in_ok-clear_all.ensures.idle.0) c.in_ok-clear_all.ensures.way,
    )

pub returns-clause-rests : goal.returns-clause-rests
returns-clause-rests c =
    let p = c.args.shared.modulus.now.value in
    let inputs = c.args.shared.inputs in
    let rows = c.args.shared.rows.now in
    let own = c.args.own.now in
    let new = c.clear_all.new.together in
    let known = told c.clear_all.new.seat in
    let wide = c.in_ok-clear_all.ensures.idle.0 in
    subst (λ m. AreRests p m inputs rows (rows_left own.left.items) known c.args.lost.now c.in_ok-rests.rests.items) wide
    (c.in_ok-rests.ensures known
    (subst (λ m. AreOnTheirWay p new.limit m m rows (rows_left own.left.items) own.pivots.items
    known new.left.items new.numbers.items new.taken.items 0 c.args.lost.now) (sym wide) c.in_ok-clear_all.ensures.way))

pub clear_all-requires-clause-few : goal.clear_all-requires-clause-few
clear_all-requires-clause-few c = c.requires.few

pub clear_all-requires-clause-ready : goal.clear_all-requires-clause-ready
clear_all-requires-clause-ready c = c.requires.ready

pub clear_all-requires-clause-own : goal.clear_all-requires-clause-own
clear_all-requires-clause-own c = c.requires.own

pub rests_of-requires-clause-few : goal.rests_of-requires-clause-few
rests_of-requires-clause-few c = c.requires.few
