use Rattle.std.proofs.Common.{ap, arith, get_or, inl, length, subst, subst₂, sym, ◌<◌, ◌^◌, ◌≡◌}
use Rattle.std.proofs.lemmas.List.{get_or_default}
use Rattle.formal_sums.proofs.Combining.{Each_map}
use Rattle.term_lists.proofs.Scaling.{Each_at}
use Rattle.term_lists.specs.Rings.{variables}
use Rattle.row_matrix.specs.Rows.{column_key}
use Rattle.numbered_sums.proofs.Taking.{written_back}
use Rattle.schreyer_resolution.proofs.Substitution.{taken_all, taken_start}
use Rattle.numbered_sums.specs.KeySums.{AddsProduct, AreEntriesWithin, AreSmall, AreZeroSums}
use Rattle.schreyer_resolution.specs.Sharing.{AreTakenQuotients}
use Rattle.schreyer_resolution.specs.Turns.{quotients_at}
use Rattle.schreyer_resolution.proofs.substituting.take_quotients.Goals as goal

pub add_multiple-requires-clause-small : goal.add_multiple-requires-clause-small
add_multiple-requires-clause-small c =
    subst AreSmall (sym c.as_mut_slice.ensures.value)
    (Each_map (λ a. a ≡ 0) (λ a. a < 2 ^ 63) c.args.work.now.sums.items (λ a e. omega (arith, e)) c.requires.idle)

pub add_multiple-requires-clause-touched : goal.add_multiple-requires-clause-touched
add_multiple-requires-clause-touched c = λ i lt.
    let sums = c.as_mut_slice.result.now in
    let x = get_or sums i 0 in
    inl (Each_at (λ a. a ≡ 0) sums i x (subst AreZeroSums (sym c.as_mut_slice.ensures.value) c.requires.idle) lt (get_or_default sums i 0 x lt))

pub add_multiple-requires-clause-within : goal.add_multiple-requires-clause-within
add_multiple-requires-clause-within c =
    let p = c.args.ring.now.modulus.value in
    subst (λ xs. AreEntriesWithin p (length xs) c.args.start.now) (sym c.as_mut_slice.ensures.value)
    (subst (λ n. AreEntriesWithin p n c.args.start.now) (sym c.requires.count) c.requires.start.within)

pub take_all-requires-clause-taken : goal.take_all-requires-clause-taken
take_all-requires-clause-taken c =
    let ring = c.args.ring.now in
    let p = ring.modulus.value in
    let sums = c.args.work.now.sums in
    let new = c.add_multiple.new.sums in
    let adds : AddsProduct p 1 c.args.start.now sums.items new =
    subst (λ xs. AddsProduct p 1 c.args.start.now xs new) c.as_mut_slice.ensures.value c.in_ok-add_multiple.ensures.adds in
    let count : length new ≡ length sums.items = adds.count in
    let whole : sums.len ≡ length new = omega (arith, count, c.as_mut_slice.ensures.len, ap length c.as_mut_slice.ensures.value) in
    let start = taken_start ring c.args.columns.now c.args.products.now.numbers c.args.key.now c.args.start.now sums.items new c.add_multiple.new.touched.items
    c.requires.count c.requires.idle c.requires.start adds c.in_ok-add_multiple.ensures.small c.in_ok-add_multiple.ensures.touched in
    subst₂ (λ qs ns. AreTakenQuotients ring c.args.columns.now c.args.products.now.numbers c.args.key.now qs ns c.add_multiple.new.touched.items)
    (sym (ap (quotients_at c.args.products.now.list.items) c.clear.ensures.items)) (sym (written_back sums.len new sums.items whole)) start

pub returns-clause-quotients : goal.returns-clause-quotients
returns-clause-quotients c = λ none.
    let n = variables c.args.ring.now in
    let one : 1 < c.args.ring.now.modulus.value = c.domain.ensures.above_one in
    taken_all c.args.ring.now c.args.columns.now c.args.products.now.numbers c.args.key.now
    (quotients_at c.args.products.now.list.items c.take_all.new.taken.items) c.take_all.new.work.sums.items c.take_all.new.work.touched.items (omega (arith, one)) c.requires.base c.in_ok-take_all.ensures
    (c.clear_sums.ensures.same n (column_key n c.args.products.now.numbers) none)
