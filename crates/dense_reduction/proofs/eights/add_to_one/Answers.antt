use Rattle.std.proofs.Common.{[], arith, get_or, get_or-set_other, length, refl, set, subst, sym, ◌*◌, ◌+◌, ◌<◌, ◌∙◌, ◌≡◌}
use Rattle.std.proofs.lemmas.List.{get_or-set_same, length-set, take_all}
use Rattle.residues.specs.Residues.{IsCongruent}
use Rattle.row_matrix.specs.Rows.{Entry}
use Rattle.dense_reduction.proofs.Adding.{adds_nothing}
use Rattle.dense_reduction.proofs.EightSums.{dense_at, dense_set, entry_at, lane_kept, lane_step, set_below}
use Rattle.dense_reduction.specs.Dense.{AddsMultiple}
use Rattle.dense_reduction.specs.Eights.{lane}
use Rattle.dense_reduction.proofs.eights.add_to_one.Goals as goal

pub add_product-requires-clause-sum : goal.add_product-requires-clause-sum
add_product-requires-clause-sum c =
    let i = c.loop-entry.entry-index in
    let within = entry_at c.args.modulus.now.value (length c.args.numbers.now) i c.args.entries.now c.requires.entries c.loop-entry-test.true in
    dense_at c.args.limit c.args.row (get_or c.args.entries.now i (0, 0)).0 c.loop-entry.numbers
    (c.loop-entry.invariant.small c.args.row c.requires.row) (omega (arith, within.0, c.loop-entry.invariant.count))

pub bounds-numbers-entry : goal.bounds-numbers-entry
bounds-numbers-entry c =
    let i = c.loop-entry.entry-index in
    let within = entry_at c.args.modulus.now.value (length c.args.numbers.now) i c.args.entries.now c.requires.entries c.loop-entry-test.true in
    omega (arith, within.0, c.loop-entry.invariant.count)

pub loop-entry-preserved : goal.loop-entry-preserved
loop-entry-preserved c =
    let p = c.args.modulus.now.value in
    let limit = c.args.limit in
    let row = c.args.row in
    let factor = c.args.factor in
    let es = c.args.entries.now in
    let i = c.loop-entry.entry-index in
    let e : Entry = get_or es i (0, 0) in
    let lt = c.loop-entry-test.true in
    let start = c.args.numbers.now in
    let numbers = c.loop-entry.numbers in
    let known = c.loop-entry.invariant in
    let within = entry_at p (length start) i es c.requires.entries lt in
    let inside : e.0 < length numbers = omega (arith, within.0, known.count) in
    let old = get_or numbers e.0 [] in
    let eight : length old ≡ 8 = omega arith in
    let seat : row < length old = omega (arith, eight, c.requires.row) in
    let x = c.add_product.result in
    let new = set old row x in
    let sum : IsCongruent p (get_or new row 0) (get_or old row 0 + factor * e.1) =
    subst (λ y. IsCongruent p y (get_or old row 0 + factor * e.1)) (sym (get_or-set_same old row x 0 seat)) c.add_product.ensures.congruent in
    record {
      count = length-set numbers e.0 new ∙ known.count;
      adds = lane_step p factor es i e row start numbers new refl known.adds lt c.requires.entries known.count sum;
      others = λ j q n. lane_kept j e.0 numbers new (get_or-set_other old row j x 0 n) ∙ known.others j q n;
      small = dense_set limit e.0 numbers new known.small
          (set_below limit row x old seat c.add_product.ensures.small (λ j q. dense_at limit j e.0 numbers (known.small j q) inside));
    }

pub loop-entry-init : goal.loop-entry-init
loop-entry-init c = record {
  count = refl;
  adds = adds_nothing c.args.modulus.now.value c.args.factor (lane c.args.row c.args.numbers.now);
  others = λ j q n. refl;
  small = c.requires.small;
}

pub add_product-requires-clause-residue : goal.add_product-requires-clause-residue
add_product-requires-clause-residue c =
    (entry_at c.args.modulus.now.value (length c.args.numbers.now) c.loop-entry.entry-index c.args.entries.now c.requires.entries c.loop-entry-test.true).1

pub returns-clause-adds : goal.returns-clause-adds
returns-clause-adds c =
    subst (λ xs. AddsMultiple c.args.modulus.now.value c.args.factor xs (lane c.args.row c.args.numbers.now) (lane c.args.row c.loop-entry.numbers))
    (take_all c.loop-entry.entry-index c.args.entries.now c.loop-entry-test.false) c.loop-entry.invariant.adds

pub add_product-requires-clause-limit : goal.add_product-requires-clause-limit
add_product-requires-clause-limit c = c.requires.limit

pub add_product-requires-clause-factor : goal.add_product-requires-clause-factor
add_product-requires-clause-factor c = c.requires.factor
