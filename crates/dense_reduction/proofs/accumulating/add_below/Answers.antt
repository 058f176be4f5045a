use Rattle.std.proofs.Common.{arith, get_or, length, subst, ◌<◌}
use Rattle.std.proofs.lemmas.List.{get_or_default, take_all}
use Rattle.term_lists.proofs.Parts.{Each_member}
use Rattle.row_matrix.specs.Rows.{Entry}
use Rattle.dense_reduction.proofs.Adding.{Each_set, adds_nothing, adds_step}
use Rattle.dense_reduction.proofs.EightSums.{entry_at}
use Rattle.dense_reduction.specs.Dense.{AddsMultiple}
use Rattle.dense_reduction.proofs.accumulating.add_below.Goals as goal

pub loop-entry-preserved : goal.loop-entry-preserved
loop-entry-preserved c =
    let p = c.args.modulus.now.value in
    let i = c.loop-entry.entry-index in
    let e : Entry = get_or c.args.entries.now i (0, 0) in
    let one : 1 < p = c.domain.ensures.above_one in
    let b = c.add_product.result in
    record {
      adds = adds_step p c.args.factor c.args.entries.now i e c.args.acc.now c.loop-entry.acc b
          (omega arith) c.loop-entry.invariant.adds c.loop-entry-test.true (get_or_default c.args.entries.now i (0, 0) e c.loop-entry-test.true)
          c.requires.entries c.add_product.ensures.congruent;
      small = Each_set (λ a. a < c.args.limit) c.loop-entry.acc e.0 b c.loop-entry.invariant.small c.add_product.ensures.small;
    }

pub loop-entry-init : goal.loop-entry-init
loop-entry-init c = record { adds = adds_nothing c.args.modulus.now.value c.args.factor c.args.acc.now; small = c.requires.small }

pub bounds-acc-at : goal.bounds-acc-at
bounds-acc-at c =
    let within = entry_at c.args.modulus.now.value (length c.args.acc.now) c.loop-entry.entry-index c.args.entries.now c.requires.entries c.loop-entry-test.true in
    omega (arith, within.0, c.loop-entry.invariant.adds.count)

pub bounds-acc-at-in-loop-entry : goal.bounds-acc-at-in-loop-entry
bounds-acc-at-in-loop-entry c =
    let within = entry_at c.args.modulus.now.value (length c.args.acc.now) c.loop-entry.entry-index c.args.entries.now c.requires.entries c.loop-entry-test.true in
    omega (arith, within.0, c.loop-entry.invariant.adds.count)

pub add_product-requires-clause-sum : goal.add_product-requires-clause-sum
add_product-requires-clause-sum c =
    let i = c.loop-entry.entry-index in
    let acc = c.loop-entry.acc in
    let within = entry_at c.args.modulus.now.value (length c.args.acc.now) i c.args.entries.now c.requires.entries c.loop-entry-test.true in
    Each_member (λ a. a < c.args.limit) acc (get_or c.args.entries.now i (0, 0)).0 0 c.loop-entry.invariant.small
    (omega (arith, within.0, c.loop-entry.invariant.adds.count))

pub add_product-requires-clause-residue : goal.add_product-requires-clause-residue
add_product-requires-clause-residue c =
    (entry_at c.args.modulus.now.value (length c.args.acc.now) c.loop-entry.entry-index c.args.entries.now c.requires.entries c.loop-entry-test.true).1

pub returns-clause-adds : goal.returns-clause-adds
returns-clause-adds c =
    subst (λ xs. AddsMultiple c.args.modulus.now.value c.args.factor xs c.args.acc.now c.loop-entry.acc)
    (take_all c.loop-entry.entry-index c.args.entries.now c.loop-entry-test.false) c.loop-entry.invariant.adds

pub add_product-requires-clause-limit : goal.add_product-requires-clause-limit
add_product-requires-clause-limit c = c.requires.limit

pub add_product-requires-clause-factor : goal.add_product-requires-clause-factor
add_product-requires-clause-factor c = c.requires.factor
