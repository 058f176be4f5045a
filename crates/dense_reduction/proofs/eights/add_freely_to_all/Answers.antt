use Rattle.std.proofs.Common.{[], arith, get_or, length, refl, ℕ, ◌*◌, ◌+◌, ◌<◌, ◌≡◌}
use Rattle.row_matrix.specs.Rows.{Entry}
use Rattle.dense_reduction.proofs.EightSums.{all_none, all_step, entry_at, exact_sums, free_at, free_start, free_step, sum_below}
use Rattle.dense_reduction.proofs.eights.add_freely_to_all.Goals as goal

pub loop-entry-init : goal.loop-entry-init
loop-entry-init c =
    let p = c.args.modulus.now.value in
    let h = c.requires.entries in
    record {
      added = all_none p c.args.factors.now c.args.numbers.now;
      free = free_start p c.args._limit h.0 c.args.entries.now c.args.numbers.now h.1 c.requires.small;
    }

pub bounds-numbers-entry : goal.bounds-numbers-entry
bounds-numbers-entry c =
    let p = c.args.modulus.now.value in
    let i = c.loop-entry.entry-index in
    let within = entry_at p (length c.args.numbers.now) i c.args.entries.now c.requires.within c.loop-entry-test.true in
    omega (arith, within.0, c.loop-entry.invariant.added.count)

pub axpy_dense-requires-clause-factor : goal.axpy_dense-requires-clause-factor
axpy_dense-requires-clause-factor c =
    let p = c.args.modulus.now.value in
    let i = c.loop-entry.entry-index in
    (entry_at p (length c.args.numbers.now) i c.args.entries.now c.requires.within c.loop-entry-test.true).1

pub axpy_dense-requires-clause-numbers : goal.axpy_dense-requires-clause-numbers
axpy_dense-requires-clause-numbers c =
    let p = c.args.modulus.now.value in
    let i = c.loop-entry.entry-index in
    let es = c.args.entries.now in
    let e : Entry = get_or es i (0, 0) in
    let lt = c.loop-entry-test.true in
    let numbers = c.loop-entry.numbers in
    let within = entry_at p (length c.args.numbers.now) i es c.requires.within lt in
    let inside : e.0 < length numbers = omega (arith, within.0, c.loop-entry.invariant.added.count) in
    let eight : length (get_or numbers e.0 []) ≡ 8 = omega arith in
    λ j q. (let below = free_at p c.args._limit i es numbers c.loop-entry.invariant.free lt inside j (omega (arith, eight, q)) in
    omega (arith, below, c.requires.limit))

pub loop-entry-preserved : goal.loop-entry-preserved
loop-entry-preserved c =
    let p = c.args.modulus.now.value in
    let i = c.loop-entry.entry-index in
    let es = c.args.entries.now in
    let e : Entry = get_or es i (0, 0) in
    let lt = c.loop-entry-test.true in
    let numbers = c.loop-entry.numbers in
    let h = c.requires.entries in
    let within = entry_at p (length c.args.numbers.now) i es c.requires.within lt in
    let inside : e.0 < length numbers = omega (arith, within.0, c.loop-entry.invariant.added.count) in
    let eight : length (get_or numbers e.0 []) ≡ 8 = omega arith in
    let new = c.axpy_dense.new.acc in
    let sums : (j : ℕ) → j < 8 → get_or new j 0 ≡ get_or (get_or numbers e.0 []) j 0 + e.1 * get_or c.args.factors.now j 0 =
    λ j q. c.axpy_dense.ensures.sums j (omega (arith, eight, q)) in
    let below = sum_below p c.args._limit e.1 c.args.factors.now (get_or numbers e.0 []) new within.1 c.requires.factors
    (free_at p c.args._limit i es numbers c.loop-entry.invariant.free lt inside) sums in
    record {
      added = all_step p c.args.factors.now es i e c.args.numbers.now numbers new refl c.loop-entry.invariant.added lt c.requires.within
          (exact_sums p e.1 c.args.factors.now (get_or numbers e.0 []) new sums);
      free = free_step p c.args._limit h.0 (length c.args.numbers.now) i es numbers new h.1 lt below c.loop-entry.invariant.free;
    }
