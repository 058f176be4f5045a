use Rattle.std.proofs.Common.{Some, ap, arith, get_or, length, subst, sym, ◌<◌, ◌∙◌, ◌∷◌}
use Rattle.pivot_table.specs.Law.{told}
use Rattle.row_matrix.specs.Rows.{IsRow}
use Rattle.dense_reduction.proofs.Naming.{follows_trans}
use Rattle.dense_reduction.specs.Pivots.{ArePivots}
use Rattle.dense_reduction.specs.Rests.{rows_left}
use Rattle.dense_reduction.specs.Underway.{AreIdle}
use Rattle.dense_reduction.specs.Words.{AreRowsReady}
use Rattle.dense_reduction.specs.declared.lefts.Lost.{Lost}
use Rattle.row_reduce.proofs.Lowered.{keep_next, rest_missing, rest_next, skip_next}
use Rattle.row_reduce.specs.Replaced.{IsRestKept}
use Rattle.row_reduce.proofs.helping.keep_rests.Goals as goal
use Rattle.row_reduce.proofs.helping.keep_rests.Goals.{in-Some-Some+in_ok-keep_rest-in-Some-Some, in-Some-None, in-None}

pub keep_rest-requires-clause-ready : goal.keep_rest-requires-clause-ready
keep_rest-requires-clause-ready c =
    let shared = c.args.shared in
    subst (λ m. AreRowsReady shared.modulus.now.value m shared.inputs shared.rows.now shared.claims.now.rows.leads.items shared.claims.now.rows.held.items)
    (sym c.loop-one.invariant.wide) c.requires.ready

pub keep_rest-requires-clause-own : goal.keep_rest-requires-clause-own
keep_rest-requires-clause-own c =
    let own = c.loop-one.own in
    subst (λ m. ArePivots c.args.shared.modulus.now.value m c.args.shared.inputs (rows_left own.left.items) own.pivots.items)
    (sym c.loop-one.invariant.wide) c.loop-one.invariant.own

pub keep_rest-requires-clause-idle : goal.keep_rest-requires-clause-idle
keep_rest-requires-clause-idle c = subst (λ m. AreIdle m c.loop-one.work.numbers.items) (sym c.loop-one.invariant.wide) c.loop-one.invariant.idle

pub keep_rest-requires-clause-rest : goal.keep_rest-requires-clause-rest
keep_rest-requires-clause-rest c =
    let p = c.args.shared.modulus.now.value in
    let columns = length c.args.own.now.pivots.items in
    let inputs = c.args.shared.inputs in
    let lost = c.args.lost.now in
    let i = c.loop-one.one-index in
    let lt : i < length lost = omega (arith, c.loop-one-test.true) in
    let popped = c.in-Some-Some in
    let v = c.loop-one.invariant in
    let d : Lost = record { number = 0; winner = 0 } in
    let rests' = c.pop_front.new.self.items in
    let rest = rest_next p columns inputs c.args.shared.rows.now (rows_left c.args.own.now.left.items) (told c.args.seat.now) lost i d
    (Some popped.rest) c.loop-one.left.items rests' lt (popped.ensures.items ∙ ap (λ r. r ∷ rests') popped.field-0-is) v.rests in
    subst (λ m. IsRow p m inputs popped.rest) (sym v.wide) rest.0.good

pub loop-one-preserved : goal.loop-one-preserved
loop-one-preserved c =
    let p = c.args.shared.modulus.now.value in
    let columns = length c.args.own.now.pivots.items in
    let inputs = c.args.shared.inputs in
    let rows = c.args.shared.rows.now in
    let lost = c.args.lost.now in
    let i = c.loop-one.one-index in
    let d : Lost = record { number = 0; winner = 0 } in
    let v = c.loop-one.invariant in
    let lt : i < length lost = omega (arith, c.loop-one-test.true) in
    let start = c.args.own.now.left.items in
    let own = c.loop-one.own.left.items in
    let first = told c.args.seat.now in
    let old = told c.loop-one.seat in
    let rests' = c.pop_front.new.self.items in
    elim c.match-pop_front.branch [
      | in-Some-Some+in_ok-keep_rest-in-Some-Some w ↦ (
          let popped = w.in-Some-Some in
          let new = w.keep_rest.new in
          let done = w.in_ok-keep_rest-in-Some-Some.ensures in
          let f = follows_trans first old (told new.seat) v.follows w.keep_rest.ensures.follows in
          let kept = subst (λ m. IsRestKept p m inputs rows (told new.seat) (get_or lost i d).number popped.rest own new.own.left.items) v.wide done.kept in
          let pivots : ArePivots p columns inputs (rows_left new.own.left.items) new.own.pivots.items =
          subst (λ m. ArePivots p m inputs (rows_left new.own.left.items) new.own.pivots.items) v.wide done.own in
          let step = keep_next p columns inputs rows first old (told new.seat) lost i d start own new.own.left.items popped.rest c.loop-one.left.items rests'
          lt f w.keep_rest.ensures.follows (popped.ensures.items ∙ ap (λ r. r ∷ rests') popped.field-0-is) v.rests v.grown v.replaced kept in
          rw (w.seat-is, w.own-is, w.work-is) (record {
            seat = w.keep_rest.ensures.seat;
            follows = f;
            wide = pivots.count;
            own = pivots;
            idle = subst (λ m. AreIdle m new.work.numbers.items) v.wide done.idle;
            grown = step.0;
            rests = step.1;
            replaced = step.2;
          }))
      | in-Some-None w ↦ (
          let popped = w.in-Some-None in
          let step = skip_next p columns inputs rows first old lost i d start own c.loop-one.left.items rests'
          lt v.follows (popped.ensures.items ∙ ap (λ r. r ∷ rests') popped.field-0-is) v.rests v.grown v.replaced in
          rw (w.seat-is, w.own-is, w.work-is) (record {
            seat = v.seat;
            follows = v.follows;
            wide = v.wide;
            own = v.own;
            idle = v.idle;
            grown = v.grown;
            rests = step.0;
            replaced = step.1;
          }))
      | in-None w ↦ absurd
          (rest_missing p columns inputs rows (rows_left start) first lost i d c.loop-one.left.items rests' lt
          w.in-None.ensures.items w.in-None.ensures.rest v.rests)
    ]
