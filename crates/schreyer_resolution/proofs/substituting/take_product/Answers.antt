use Rattle.std.proofs.Common.{[], ap, arith, length, subst, subst₂, sym, ◌+◌, ◌++◌, ◌<◌, ◌∙◌, ◌∷◌, ◌≡◌}
use Rattle.residues.proofs.Congruences.{IsCongruent_of, IsCongruent_trans}
use Rattle.residues.specs.Residues.{IsCongruent}
use Rattle.term_lists.proofs.Scaling.{Each_at}
use Rattle.numbered_sums.proofs.Taking.{cancelled, written_back}
use Rattle.schreyer_resolution.proofs.Substitution.{taken_more}
use Rattle.schreyer_resolution.proofs.Turns.{quotients_more}
use Rattle.numbered_sums.specs.KeySums.{AddsProduct, AreEntriesWithin, AreSmall, AreTouched}
use Rattle.schreyer_resolution.specs.Sharing.{AreTakenQuotients, row_at}
use Rattle.schreyer_resolution.specs.Turns.{quotients_at}
use Rattle.schreyer_resolution.proofs.substituting.take_product.Goals as goal

pub add_multiple-requires-clause-small : goal.add_multiple-requires-clause-small
add_multiple-requires-clause-small c = subst AreSmall (sym c.as_mut_slice.ensures.value) c.requires.taken.small

pub add_multiple-requires-clause-touched : goal.add_multiple-requires-clause-touched
add_multiple-requires-clause-touched c = subst (AreTouched c.args.work.now.touched.items) (sym c.as_mut_slice.ensures.value) c.requires.taken.marked

pub add_multiple-requires-clause-within : goal.add_multiple-requires-clause-within
add_multiple-requires-clause-within c =
    let p = c.args.ring.now.modulus.value in
    let s = c.index-product.result.now in
    let last = Each_at _ c.args.products.now.list.items c.args.place s c.requires.products c.requires.place c.index-product.ensures in
    subst₂ (λ xs es. AreEntriesWithin p (length xs) es) (sym c.as_mut_slice.ensures.value)
    (sym (c.row_of.ensures ∙ ap (λ es. row_at es s.stretch) c.deref.ensures.value))
    (subst (λ n. AreEntriesWithin p n (row_at c.args.products.now.entries.items s.stretch)) (sym c.requires.taken.count) last.row.row.within)

pub returns : goal.returns
returns c =
    let ring = c.args.ring.now in
    let cols = c.args.columns.now in
    let numbers = c.args.products.now.numbers in
    let p = ring.modulus.value in
    let products = c.args.products.now.list.items in
    let s = c.index-product.result.now in
    let last = Each_at _ products c.args.place s c.requires.products c.requires.place c.index-product.ensures in
    let r = c.residue_at-residue.result in
    let f = c.neg.result in
    let taken = c.args.taken.now.items in
    let old = c.args.work.now in
    let new = c.add_multiple.new.sums in
    let touched = c.add_multiple.new.touched.items in
    let lt : r < p = c.residue_at-residue.ensures.reduced in
    let pos : 0 < r = omega (arith, c.if-residue-eq0.false) in
    let z : IsCongruent p (f + r) 0 = IsCongruent_trans (IsCongruent_of p _ _ (ap (λ x. x + r) c.neg.ensures.value)) (cancelled p r lt) in
    let adds : AddsProduct p f (row_at c.args.products.now.entries.items s.stretch) old.sums.items new =
    subst₂ (λ es xs. AddsProduct p f es xs new) (c.row_of.ensures ∙ ap (λ es. row_at es s.stretch) c.deref.ensures.value) c.as_mut_slice.ensures.value c.in_ok-add_multiple.ensures.adds in
    let more = taken_more ring cols numbers c.args.key.now (quotients_at products taken) r f old.sums.items new old.touched.items touched c.args.products.now.entries.items s
    c.requires.taken last pos lt z adds c.in_ok-add_multiple.ensures.small c.in_ok-add_multiple.ensures.touched in
    let count : length new ≡ length old.sums.items = adds.count in
    let whole : old.sums.len ≡ length new = omega (arith, count, c.as_mut_slice.ensures.len, ap length c.as_mut_slice.ensures.value) in
    let pushed : quotients_at products c.push.new.self.items
    ≡ quotients_at products taken ++ (record { index = s.index; residue = r; monomial = s.monomial }) ∷ [] =
    ap (quotients_at products) (c.in_ok-push.ensures.items ∙ ap (λ k. taken ++ (k, r) ∷ []) c.in_ok-kept_number.ensures)
    ∙ quotients_more products taken c.args.place r s c.requires.place c.index-product.ensures in
    subst (λ ns. AreTakenQuotients ring cols numbers c.args.key.now (quotients_at products c.push.new.self.items) ns touched)
    (sym (written_back old.sums.len new old.sums.items whole))
    (subst (λ qs. AreTakenQuotients ring cols numbers c.args.key.now qs new touched) (sym pushed) more)
