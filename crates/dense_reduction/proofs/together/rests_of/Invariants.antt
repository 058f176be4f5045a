use Rattle.std.proofs.Common.{List, length, take}
use Rattle.pivot_table.specs.declared.law.Entry.{Entry as Told}
use Rattle.dense_reduction.specs.Rests.{rows_left}
use Rattle.dense_reduction.specs.Together.{AreOnTheirWay, AreRests}
use Rattle.dense_reduction.proofs.together.rests_of.Given as goal

abbrev pub invariant-loop-j : goal.invariant-loop-j
invariant-loop-j l =
    let p = l.shared.modulus.now.value in
    let rows = l.shared.rows.now in
    let own = rows_left l.own.left.items in
    let columns = length l.together.numbers.items in
    (known : List Told)
    → AreOnTheirWay p l.together.limit columns columns rows own l.own.pivots.items known l.together.left.items l.together.numbers.items
    l.together.taken.items 0 l.lost
    → AreRests p columns l.shared.inputs rows own known (take l.j l.lost) l.rests.items
