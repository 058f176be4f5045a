use Rattle.std.proofs.Common.{arith, get_or, length, refl}
use Rattle.row_matrix.specs.Rows.{Entry}
use Rattle.dense_reduction.proofs.EightSums.{all_step, dense_at, dense_set, entry_at}
use Rattle.dense_reduction.proofs.eights.add_below_to_all.Goals as goal

pub add_below_limit-requires-clause-small : goal.add_below_limit-requires-clause-small
add_below_limit-requires-clause-small c =
    let i = c.loop-entry.entry-index in
    let e = get_or c.args.entries.now i (0, 0) in
    let within = entry_at c.args.modulus.now.value (length c.args.numbers.now) i c.args.entries.now c.requires.entries c.loop-entry-test.true in
    λ j q. dense_at c.args.limit j e.0 c.loop-entry.numbers (c.loop-entry.invariant.small j q) (omega (arith, within.0, c.loop-entry.invariant.added.count))

pub loop-entry-preserved : goal.loop-entry-preserved
loop-entry-preserved c =
    let i = c.loop-entry.entry-index in
    let es = c.args.entries.now in
    let e : Entry = get_or es i (0, 0) in
    let numbers = c.loop-entry.numbers in
    let sums = c.add_below_limit.result in
    record {
      added = all_step c.args.modulus.now.value c.args.factors.now es i e c.args.numbers.now numbers sums
          refl c.loop-entry.invariant.added c.loop-entry-test.true c.requires.entries
          (record { congruent = c.add_below_limit.ensures.congruent; idle = c.add_below_limit.ensures.idle });
      small = dense_set c.args.limit e.0 numbers sums c.loop-entry.invariant.small c.add_below_limit.ensures.small;
    }

pub add_below_limit-requires-clause-limit : goal.add_below_limit-requires-clause-limit
add_below_limit-requires-clause-limit c = c.requires.limit

pub add_below_limit-requires-clause-factors : goal.add_below_limit-requires-clause-factors
add_below_limit-requires-clause-factors c = c.requires.factors
