use Rattle.std.proofs.Common.{ap, arith, drop, get_or, length, subst, ◌*◌, ◌+◌, ◌<◌, ◌∙◌, ◌≡◌}
use Rattle.std.proofs.lemmas.List.{drop_more, get_or_default}
use Rattle.residues.proofs.Congruences.{IsCongruent_of}
use Rattle.term_lists.proofs.Scaling.{Each_at}
use Rattle.row_matrix.specs.Rows.{Entry}
use Rattle.dense_reduction.proofs.Adding.{AreAddedTo, added_at, added_start, added_step, adds_nothing, adds_step, entries_drop, product_below}
use Rattle.dense_reduction.proofs.accumulating.add_freely.Goals as goal

pub loop-entry-init : goal.loop-entry-init
loop-entry-init c =
    let p = c.args.modulus.now.value in
    let h = c.requires.entries in
    record {
      adds = adds_nothing p c.args.factor c.args.acc.now;
      added = added_start p (p * p) c.args._limit h.0 c.args.entries.now c.args.acc.now h.1 c.requires.small;
    }

pub overflow_add-acc : goal.overflow_add-acc
overflow_add-acc c =
    let p = c.args.modulus.now.value in
    let i = c.loop-entry.entry-index in
    let es = c.args.entries.now in
    let e : Entry = get_or es i (0, 0) in
    let lt : i < length es = c.loop-entry-test.true in
    let q = Each_at (λ (x : Entry). (x.0 < length c.args.acc.now) × (x.1 < p)) es i e c.requires.within lt (get_or_default es i (0, 0) e lt) in
    let a : get_or c.loop-entry.acc e.0 0 < c.args._limit = added_at (p * p) c.args._limit es i c.loop-entry.acc c.loop-entry.invariant.added lt in
    let b : c.args.factor * e.1 < p * p = product_below p c.args.factor e.1 c.requires.factor q.1 in
    let r : c.from-times.result * c.from.result ≡ c.args.factor * e.1 =
    ap (λ x. x * c.from.result) c.from-times.ensures ∙ ap (λ x. c.args.factor * x) c.from.ensures in
    let room = c.requires.limit.room in
    omega (arith, a, b, r, room)

pub loop-entry-preserved : goal.loop-entry-preserved
loop-entry-preserved c =
    let p = c.args.modulus.now.value in
    let i = c.loop-entry.entry-index in
    let es = c.args.entries.now in
    let e : Entry = get_or es i (0, 0) in
    let one : 1 < p = c.domain.ensures.above_one in
    let lt : i < length es = c.loop-entry-test.true in
    let acc = c.loop-entry.acc in
    let is = get_or_default es i (0, 0) e lt in
    let q = Each_at (λ (x : Entry). (x.0 < length c.args.acc.now) × (x.1 < p)) es i e c.requires.within lt is in
    let a : get_or acc e.0 0 < c.args._limit = added_at (p * p) c.args._limit es i acc c.loop-entry.invariant.added lt in
    let b : c.args.factor * e.1 < p * p = product_below p c.args.factor e.1 c.requires.factor q.1 in
    let r : c.from-times.result * c.from.result ≡ c.args.factor * e.1 =
    ap (λ x. x * c.from.result) c.from-times.ensures ∙ ap (λ x. c.args.factor * x) c.from.ensures in
    let sum = get_or acc e.0 0 + c.from-times.result * c.from.result in
    let h = c.requires.entries in
    record {
      adds = adds_step p c.args.factor es i e c.args.acc.now acc sum
          (omega arith) c.loop-entry.invariant.adds lt is c.requires.within
          (IsCongruent_of p sum (get_or acc e.0 0 + c.args.factor * e.1) (ap (λ x. get_or acc e.0 0 + x) r));
      added = added_step p (p * p) c.args._limit (length c.args.acc.now) sum e (drop (i + 1) es) acc
          (entries_drop p h.0 (length c.args.acc.now) i es h.1 lt) (omega (arith, a, b, r))
          (subst (λ xs. AreAddedTo (p * p) c.args._limit xs acc) (drop_more es i (0, 0) lt) c.loop-entry.invariant.added);
    }
