use Rattle.std.proofs.Common.{ap, arith, length, refl, subst, subst₂, sym, ◌-◌, ◌∙◌, ◌≡◌}
use Rattle.dense_reduction.proofs.Lanes.{negative_one, tail_is, tail_within, written_back}
use Rattle.dense_reduction.proofs.OnTheWay.{way_start}
use Rattle.dense_reduction.specs.Dense.{AddsMultiple, AreWithin}
use Rattle.dense_reduction.specs.Eights.{AreCleared, lane}
use Rattle.dense_reduction.specs.Together.{IsOnItsWay}
use Rattle.dense_reduction.proofs.together.start_row.Goals as goal

pub add_to_one-requires-clause-entries : goal.add_to_one-requires-clause-entries
add_to_one-requires-clause-entries c =
    let p = c.args.shared.modulus.now.value in
    let rows = c.args.shared.rows.now in
    let k = c.args.lost.number in
    let e = tail_is rows k c.index-shared-lost.result c.entries.result.now c.requires.lost.0 c.entries.ensures in
    subst₂ (AreWithin p) (ap length (sym c.as_mut_slice-numbers.ensures.value)) (sym e)
    (tail_within p (length c.args.together.now.numbers.items) c.args.shared.inputs rows k c.requires.rows c.requires.lost.0)

pub add_to_one-requires-2-clause-entries : goal.add_to_one-requires-2-clause-entries
add_to_one-requires-2-clause-entries c =
    let p = c.args.shared.modulus.now.value in
    let rows = c.args.shared.rows.now in
    let k = c.args.lost.winner in
    let e = tail_is rows k c.index-shared-lost-2.result c.entries-2.result.now c.requires.lost.1 c.entries-2.ensures in
    subst₂ (AreWithin p) (sym (c.add_to_one.ensures.count ∙ ap length c.as_mut_slice-numbers.ensures.value)) (sym e)
    (tail_within p (length c.args.together.now.numbers.items) c.args.shared.inputs rows k c.requires.rows c.requires.lost.1)

pub returns-clause-cleared : goal.returns-clause-cleared
returns-clause-cleared c =
    let p = c.args.shared.modulus.now.value in
    let items = c.args.together.now.numbers.items in
    let new = c.add_to_one-2.new.numbers in
    let count : length new ≡ length items = c.add_to_one-2.ensures.count ∙ c.add_to_one.ensures.count ∙ ap length c.as_mut_slice-numbers.ensures.value in
    let n : c.args.together.now.numbers.len ≡ length new =
    omega (arith, count, c.as_mut_slice-numbers.ensures.len, ap length c.as_mut_slice-numbers.ensures.value) in
    subst (AreCleared p c.args.together.now.limit 0 (length items)) (sym (written_back c.args.together.now.numbers.len new items n)) record {
      numbered = count;
      room = c.requires.cleared.room;
      small = c.add_to_one-2.ensures.small;
      cleared = λ j i q l. absurd (omega (arith, l));
    }

pub returns-clause-way : goal.returns-clause-way
returns-clause-way c = λ own pivots known lost.
    let p = c.args.shared.modulus.now.value in
    let rows = c.args.shared.rows.now in
    let j = c.args.j in
    let l = c.args.lost in
    let t = c.args.together.now in
    let items = t.numbers.items in
    let between = c.add_to_one.new.numbers in
    let new = c.add_to_one-2.new.numbers in
    let value = c.as_mut_slice-numbers.ensures.value in
    let count : length new ≡ length items = c.add_to_one-2.ensures.count ∙ c.add_to_one.ensures.count ∙ ap length value in
    let n : t.numbers.len ≡ length new = omega (arith, count, c.as_mut_slice-numbers.ensures.len, ap length value) in
    let e = tail_is rows l.number c.index-shared-lost.result c.entries.result.now c.requires.lost.0 c.entries.ensures in
    let e' = tail_is rows l.winner c.index-shared-lost-2.result c.entries-2.result.now c.requires.lost.1 c.entries-2.ensures in
    let less : c.neg-less.result ≡ p - 1 = negative_one p c.neg-less.result c.domain.ensures.above_one c.neg-less.ensures.value in
    subst (λ ns. IsOnItsWay p t.limit 0 (length items) rows own pivots known t.left.items ns t.taken.items j l) (sym (written_back t.numbers.len new items n))
    (way_start p t.limit (length items) c.args.shared.inputs rows own pivots known t.left.items items between new t.taken.items j l
    c.domain.ensures.above_one c.requires.rows lost c.requires.none.0 c.requires.none.1 refl c.requires.idle
    (subst₂ (λ es xs. AddsMultiple p 1 es (lane j xs) (lane j between)) e value c.add_to_one.ensures.adds)
    (subst₂ (λ f es. AddsMultiple p f es (lane j between) (lane j new)) less e' c.add_to_one-2.ensures.adds)
    c.requires.cleared.room (c.add_to_one-2.ensures.small j c.requires.row))
