use Rattle.std.proofs.Common.{ap, arith, get_or, length, subst, sym, ◌+◌, ◌∙◌, ◌≡◌}
use Rattle.std.specs.Prelude.{IfSome}
use Rattle.std.proofs.lemmas.List.{get_or_default}
use Rattle.row_matrix.specs.Hashes.{no_key}
use Rattle.numbered_sums.specs.KeySums.{AreZeroSums}
use Rattle.schreyer_resolution.proofs.SharedColumns.{made_next, made_none}
use Rattle.schreyer_resolution.specs.FreeKeys.{IsProductUpToFree}
use Rattle.schreyer_resolution.specs.Sharing.{AreColumnsMade, IsColumnMade, no_stretch, row_at}
use Rattle.schreyer_resolution.proofs.shared.columns_by.Goals as goal

pub loop-i-init : goal.loop-i-init
loop-i-init c = record {
  made = subst (AreColumnsMade c.args.ring.now c.args.columns.now c.args.induced.now c.args.keys.now 0) (sym c.in_ok-next.ensures.items) (made_none c.args.ring.now c.args.columns.now c.args.induced.now c.args.keys.now);
  count = c.requires.count;
  idle = c.requires.idle;
}

pub loop-i-preserved : goal.loop-i-preserved
loop-i-preserved c =
    let ring = c.args.ring.now in
    let cols = c.args.columns.now in
    let t = c.args.induced.now in
    let keys = c.args.keys.now in
    let i = c.loop-i.i in
    let key = c.index-keys-i.result in
    let v = c.in-Some.made in
    let new = c.shared_column.new.work.sums.items in
    let made : IsColumnMade ring cols t key v = subst (λ o. IfSome o (IsColumnMade ring cols t key)) c.in-Some.is c.in_ok-shared_column.ensures.made in
    record {
      made = subst (AreColumnsMade ring cols t keys (i + 1)) (sym c.in_ok-push_column-in-Some.ensures)
          (made_next ring cols t keys i c.loop-i.next.items v key c.loop-i.invariant.made c.loop-i-test.true c.index-keys-i.is made);
      count = subst (λ o. IfSome o (λ _. length new ≡ length c.args.products.now.numbers)) c.in-Some.is c.in_ok-shared_column.ensures.count;
      idle = subst (λ o. IfSome o (λ _. AreZeroSums new)) c.in-Some.is c.in_ok-shared_column.ensures.idle;
    }

pub row_of-start-requires-clause-from : goal.row_of-start-requires-clause-from
row_of-start-requires-clause-from c =
    let keys = c.args.keys.now in
    let i = c.loop-i.i in
    let k = get_or keys i no_key in
    (c.requires.starts.each i k c.loop-i-test.true (get_or_default keys i no_key k c.loop-i-test.true)).from

pub row_of-start-requires-clause-inside : goal.row_of-start-requires-clause-inside
row_of-start-requires-clause-inside c =
    let keys = c.args.keys.now in
    let i = c.loop-i.i in
    let k = get_or keys i no_key in
    let inside = (c.requires.starts.each i k c.loop-i-test.true (get_or_default keys i no_key k c.loop-i-test.true)).inside in
    omega (arith, inside, ap length c.deref.ensures.value)

pub shared_column-requires-clause-start : goal.shared_column-requires-clause-start
shared_column-requires-clause-start c =
    let key = c.index-keys-i.result in
    let i = c.loop-i.i in
    subst (IsProductUpToFree c.args.ring.now c.args.columns.now c.args.products.now.numbers key.position key.monomial)
    (sym (c.row_of-start.ensures ∙ ap (λ es. row_at es (get_or c.args.starts.now i no_stretch)) c.deref.ensures.value))
    (c.requires.starts.each i key c.loop-i-test.true c.index-keys-i.is).row

pub returns : goal.returns
returns c =
    let all : c.loop-i.i ≡ length c.args.keys.now = omega (arith, c.loop-i-test.false, c.loop-i.auto.i-end) in
    subst (λ k. AreColumnsMade c.args.ring.now c.args.columns.now c.args.induced.now c.args.keys.now k c.loop-i.next.items) all c.loop-i.invariant.made
