use Rattle.std.proofs.Common.{[], append-nil, arith, drop, get_or, length, mod-lt, set, subst, sym, ◌%◌, ◌+◌, ◌++◌, ◌<◌, ◌∙◌, ◌∷◌, ◌≡◌, ◌≤◌}
use Rattle.residues.specs.Residues.{IsCongruent}
use Rattle.formal_sums.proofs.WeightedSums.{Each_append}
use Rattle.pivot_table.specs.Law.{told}
use Rattle.row_matrix.specs.Rows.{Entry, shown_row_at}
use Rattle.dense_reduction.proofs.Clearing.{factor_cancels, none_left, one_left, pivot_added, residue_is, underway_left, underway_none, underway_pivot}
use Rattle.dense_reduction.proofs.Naming.{follows_same}
use Rattle.dense_reduction.proofs.Steps.{pivot_entries, reduced_added, reduced_kept}
use Rattle.dense_reduction.specs.Reductions.{IsPivotFor}
use Rattle.dense_reduction.specs.Rests.{rows_left}
use Rattle.dense_reduction.proofs.reduction.clear_column.Goals as goal

pub returns-then-residue-eq0-clause-underway : goal.returns-then-residue-eq0-clause-underway
returns-then-residue-eq0-clause-underway c =
    let w = c.args.work.now in
    let pivots = c.args.own.now.pivots.items in
    let lt : c.args.c < length w.numbers.items = omega (arith, c.requires.at, c.requires.underway.numbered) in
    underway_none c.args.shared.modulus.now.value w.limit c.args.c (length pivots) (length (c.args.shared.rows.now ++ rows_left c.args.own.now.left.items)) pivots w.left.items w.numbers.items w.taken.items c.requires.underway lt

pub returns-then-residue-eq0-clause-reduced : goal.returns-then-residue-eq0-clause-reduced
returns-then-residue-eq0-clause-reduced c = λ from row above h.
    let p = c.args.shared.modulus.now.value in
    let one : 1 < p = c.domain.ensures.above_one in
    let w = c.args.work.now in
    let lt : c.args.c < length w.numbers.items = omega (arith, c.requires.at, c.requires.underway.numbered) in
    let is = residue_is p c.from.result c.args.c c.index.result.now w.numbers.items c.index.ensures lt (c.from.ensures ∙ c.value.ensures) in
    reduced_kept p from c.args.shared.rows.now (rows_left c.args.own.now.left.items) (told c.args.seat.now) (told c.args.seat.now) row w.left.items w.left.items w.numbers.items (set w.numbers.items c.args.c 0) w.taken.items (follows_same (told c.args.seat.now)) h.above
    (λ n key. none_left p (omega (arith, one)) key c.args.c (c.index.result.now % c.from.result) w.numbers.items lt is w.left.items c.if-residue-eq0.true) h

pub returns-in_ok-push-in-None-clause-underway : goal.returns-in_ok-push-in-None-clause-underway
returns-in_ok-push-in-None-clause-underway c =
    let p = c.args.shared.modulus.now.value in
    let one : 1 < p = c.domain.ensures.above_one in
    let w = c.args.work.now in
    let pivots = c.args.own.now.pivots.items in
    let lt : c.args.c < length w.numbers.items = omega (arith, c.requires.at, c.requires.underway.numbered) in
    let q : c.from.result ≡ p = c.from.ensures ∙ c.value.ensures in
    let r = c.index.result.now % c.from.result in
    let ne : r ≡ 0 → ⊥ = c.if-residue-eq0.false in
    let small : r < p = subst (λ m. c.index.result.now % m < p) (sym q) (mod-lt c.index.result.now (let z : 0 < p = omega (arith, one) in z)) in
    let none : get_or pivots c.args.c 0 ≡ 0 = rw c.in-None.is at c.pivot_of.ensures.pivot in
    underway_left p w.limit c.args.c (length pivots) (length (c.args.shared.rows.now ++ rows_left c.args.own.now.left.items)) pivots w.left.items w.numbers.items w.taken.items c.requires.underway lt
    r c.push.new.self.items (omega (arith, ne)) small none c.in_ok-push-in-None.ensures.items

pub returns-in_ok-push-in-None-clause-reduced : goal.returns-in_ok-push-in-None-clause-reduced
returns-in_ok-push-in-None-clause-reduced c = λ from row above h.
    let p = c.args.shared.modulus.now.value in
    let one : 1 < p = c.domain.ensures.above_one in
    let w = c.args.work.now in
    let lt : c.args.c < length w.numbers.items = omega (arith, c.requires.at, c.requires.underway.numbered) in
    let r = c.index.result.now % c.from.result in
    let is = residue_is p c.from.result c.args.c c.index.result.now w.numbers.items c.index.ensures lt (c.from.ensures ∙ c.value.ensures) in
    let left' = w.left.items ++ (c.args.c, r) ∷ [] in
    rw c.in_ok-push-in-None.ensures.items (reduced_kept p from c.args.shared.rows.now (rows_left c.args.own.now.left.items) (told c.args.seat.now) (told c.pivot_of.new.seat) row w.left.items left' w.numbers.items (set w.numbers.items c.args.c 0) w.taken.items c.pivot_of.ensures.follows
    (Each_append (λ (e : Entry). from ≤ e.0) w.left.items ((c.args.c, r) ∷ []) h.above (above, tt))
    (λ n key. one_left p (omega (arith, one)) key c.args.c r w.numbers.items lt is w.left.items) h)

pub returns-in_ok-add_pivot-in-Some-clause-underway : goal.returns-in_ok-add_pivot-in-Some-clause-underway
returns-in_ok-add_pivot-in-Some-clause-underway c =
    let p = c.args.shared.modulus.now.value in
    let w = c.args.work.now in
    let new = c.add_pivot.new.work in
    let pivots = c.args.own.now.pivots.items in
    let own = rows_left c.args.own.now.left.items in
    let rows = c.args.shared.rows.now ++ own in
    let count = length pivots in
    let lt : c.args.c < length w.numbers.items = omega (arith, c.requires.at, c.requires.underway.numbered) in
    let pivot : IsPivotFor p c.args.shared.rows.now own (told c.pivot_of.new.seat) c.args.c c.in-Some.pivot = rw c.in-Some.is at c.pivot_of.ensures.pivot in
    let g = pivot_entries p c.args.c count c.args.shared.inputs c.in-Some.pivot c.args.shared.rows.now own (told c.pivot_of.new.seat) c.requires.ready.monic c.requires.own.monic pivot in
    let e = c.add_pivot.ensures in
    rw e.left (underway_pivot p w.limit c.args.c count (length rows) pivots w.left.items w.numbers.items w.taken.items c.requires.underway lt
    c.in-Some.pivot c.neg.result new.limit (drop 1 (shown_row_at rows c.in-Some.pivot).entries) new.numbers.items new.taken.items
    g.tail e.adds pivot.known c.neg.ensures.small c.in_ok-add_pivot-in-Some.ensures.taken e.room e.small)

pub returns-in_ok-add_pivot-in-Some-clause-reduced : goal.returns-in_ok-add_pivot-in-Some-clause-reduced
returns-in_ok-add_pivot-in-Some-clause-reduced c = λ from row above h.
    let p = c.args.shared.modulus.now.value in
    let one : 1 < p = c.domain.ensures.above_one in
    let w = c.args.work.now in
    let new = c.add_pivot.new.work in
    let own = rows_left c.args.own.now.left.items in
    let rows = c.args.shared.rows.now ++ own in
    let count = length c.args.own.now.pivots.items in
    let lt : c.args.c < length w.numbers.items = omega (arith, c.requires.at, c.requires.underway.numbered) in
    let pivot : IsPivotFor p c.args.shared.rows.now own (told c.pivot_of.new.seat) c.args.c c.in-Some.pivot = rw c.in-Some.is at c.pivot_of.ensures.pivot in
    let g = pivot_entries p c.args.c count c.args.shared.inputs c.in-Some.pivot c.args.shared.rows.now own (told c.pivot_of.new.seat) c.requires.ready.monic c.requires.own.monic pivot in
    let q : c.from.result ≡ p = c.from.ensures ∙ c.value.ensures in
    let r = c.index.result.now % c.from.result in
    let small : r < p = subst (λ m. c.index.result.now % m < p) (sym q) (mod-lt c.index.result.now (let z : 0 < p = omega (arith, one) in z)) in
    let is = residue_is p c.from.result c.args.c c.index.result.now w.numbers.items c.index.ensures lt q in
    let f = c.neg.result in
    let cancels = subst (λ x. IsCongruent p (x + r) 0) (sym c.neg.ensures.value) (factor_cancels p r small) in
    let P = shown_row_at rows c.in-Some.pivot in
    reduced_added p from c.args.c c.in-Some.pivot f r c.args.shared.rows.now own (told c.args.seat.now) (told c.pivot_of.new.seat) row w.left.items new.left.items w.numbers.items new.numbers.items w.taken.items new.taken.items
    (omega (arith, one)) c.pivot_of.ensures.follows pivot cancels c.add_pivot.ensures.left c.in_ok-add_pivot-in-Some.ensures.taken
    (λ n key. pivot_added p (omega (arith, one)) key c.args.c r w.numbers.items lt is w.left.items P.entries (drop 1 P.entries) f new.numbers.items g.entries cancels (c.add_pivot.ensures.adds.sum n key)) h

pub returns-in_ok-add_pivot-in-Some-clause-front : goal.returns-in_ok-add_pivot-in-Some-clause-front
returns-in_ok-add_pivot-in-Some-clause-front c = ([], c.add_pivot.ensures.left ∙ sym (append-nil c.args.work.now.left.items))

pub pivot_of-requires-clause-at : goal.pivot_of-requires-clause-at
pivot_of-requires-clause-at c = c.requires.at

pub pivot_of-requires-clause-ready : goal.pivot_of-requires-clause-ready
pivot_of-requires-clause-ready c = c.requires.ready

pub pivot_of-requires-clause-own : goal.pivot_of-requires-clause-own
pivot_of-requires-clause-own c = c.requires.own
