use Rattle.std.proofs.Common.{arith, get_or, length, subst, subst₂, sym, take, ◌<◌}
use Rattle.std.proofs.lemmas.List.{get_or_default, take_all, take_more}
use Rattle.term_lists.proofs.Parts.{Each_member}
use Rattle.dense_reduction.proofs.OnTheWay.{rests_push, ways_at}
use Rattle.dense_reduction.specs.Rests.{rows_left}
use Rattle.dense_reduction.specs.Together.{AreRests}
use Rattle.dense_reduction.specs.declared.lefts.Lost.{Lost}
use Rattle.dense_reduction.proofs.together.rests_of.Goals as goal

pub rest_of-requires-clause-way : goal.rest_of-requires-clause-way
rest_of-requires-clause-way c =
    let t = c.args.together.now in
    let columns = length t.numbers.items in
    let h = c.requires.way in
    let none : Lost = record { number = 0; winner = 0 } in
    let x : Lost = get_or c.args.lost.now c.loop-j.j none in (
      h.0,
      ways_at c.args.shared.modulus.now.value t.limit columns columns c.args.shared.rows.now (rows_left c.args.own.now.left.items)
          c.args.own.now.pivots.items h.0 t.left.items t.numbers.items t.taken.items 0 c.args.lost.now c.loop-j.j c.loop-j.j x (omega arith) c.loop-j-test.true
          (get_or_default c.args.lost.now c.loop-j.j none x c.loop-j-test.true) h.1,
    )

pub loop-j-preserved : goal.loop-j-preserved
loop-j-preserved c = λ known h.
    let p = c.args.shared.modulus.now.value in
    let t = c.args.together.now in
    let rows = c.args.shared.rows.now in
    let own = rows_left c.args.own.now.left.items in
    let columns = length t.numbers.items in
    let lost = c.args.lost.now in
    let j = c.loop-j.j in
    let lt = c.loop-j-test.true in
    let none : Lost = record { number = 0; winner = 0 } in
    let x : Lost = get_or lost j none in
    let way = ways_at p t.limit columns columns rows own c.args.own.now.pivots.items known t.left.items t.numbers.items t.taken.items 0 lost j j x
    (omega arith) lt (get_or_default lost j none x lt) h in
    subst₂ (AreRests p columns c.args.shared.inputs rows own known) (sym (take_more lost j none lt)) (sym c.in_ok-push.ensures.items)
    (rests_push p columns c.args.shared.inputs rows own known (take j lost) c.loop-j.rests.items x c.in_ok-rest.rest
    (c.in_ok-rest.ensures known way) (c.loop-j.invariant known h))

pub rest_of-requires-clause-known : goal.rest_of-requires-clause-known
rest_of-requires-clause-known c =
    Each_member (λ (l : Lost). l.number < length c.args.shared.rows.now) c.args.lost.now c.loop-j.j (record { number = 0; winner = 0 })
    c.requires.known c.loop-j-test.true

pub returns : goal.returns
returns c = λ known h.
    let p = c.args.shared.modulus.now.value in
    let rows = c.args.shared.rows.now in
    let own = rows_left c.args.own.now.left.items in
    subst (λ xs. AreRests p (length c.args.together.now.numbers.items) c.args.shared.inputs rows own known xs c.loop-j.rests.items)
    (take_all c.loop-j.j c.args.lost.now c.loop-j-test.false) (c.loop-j.invariant known h)

pub rest_of-requires-clause-rows : goal.rest_of-requires-clause-rows
rest_of-requires-clause-rows c = c.requires.rows

pub rest_of-requires-clause-own : goal.rest_of-requires-clause-own
rest_of-requires-clause-own c = c.requires.own
