use Rattle.std.proofs.Common.{ap, arith, get_or, length, subst₂, sym, ◌<◌, ◌≤◌, ◌∙◌, ◌≡◌}
use Rattle.std.proofs.lemmas.List.{get_or_default}
use Rattle.term_lists.proofs.Scaling.{Each_at}
use Rattle.numbered_sums.proofs.NumberedSums.{Each_set}
use Rattle.schreyer_resolution.proofs.FreeRows.{more_at, more_length, more_trans}
use Rattle.schreyer_resolution.proofs.Pushing.{lasts_next}
use Rattle.schreyer_resolution.proofs.Rows.{each_told}
use Rattle.schreyer_resolution.specs.Sharing.{IsFoundProduct, IsLastProduct, IsRowOf}
use Rattle.schreyer_resolution.specs.declared.products.Product.{Product}
use Rattle.schreyer_resolution.proofs.numbered.all_rows.Goals as goal

pub returns-then-at-len-clause-last : goal.returns-then-at-len-clause-last
returns-then-at-len-clause-last c =
    let x = c.loop-at.products in
    each_told (IsLastProduct c.args.ring.now c.args.columns.now x.numbers x.entries.items) x.list.items (λ j s lt is. c.loop-at.invariant.done j s (omega (arith, lt)) is)

pub loop-at-preserved : goal.loop-at-preserved
loop-at-preserved c =
    let ring = c.args.ring.now in
    let cols = c.args.columns.now in
    let start = c.args.products.now in
    let old = c.loop-at.products in
    let new = c.push_row.new.products in
    let at = c.loop-at.at in
    let inv = c.loop-at.invariant in
    let made = c.in_ok-stretch.ensures in
    let before : Product = c.index.result.now in
    let z : Product = c.index_mut.result.now in
    let y : Product = record { number = z.number; index = z.index; monomial = z.monomial; stretch = c.in_ok-stretch.stretch } in
    let lt : at < length old.list.items = omega (arith, c.if-at-len.false) in
    let more : length old.list.items ≤ length new.list.items = more_length old.list.items new.list.items made.more.list in
    let inside : at < length new.list.items = omega (arith, lt, more) in
    let there : get_or old.list.items at z ≡ z = sym (more_at old.list.items new.list.items z at lt made.more.list) ∙ sym c.index_mut.ensures.value in
    let again : Product = c.index-in-loop-at.result.now in
    let monomial : c.in_ok-t.t ≡ z.monomial =
    c.in_ok-t.ensures.ok ∙ ap (λ (q : Product). q.monomial) (c.index.ensures ∙ get_or_default old.list.items at before z lt ∙ there) in
    let same : again ≡ z = c.index-in-loop-at.ensures ∙ get_or_default old.list.items at again z lt ∙ there in
    let found_z : IsFoundProduct ring cols z = Each_at (IsFoundProduct ring cols) new.list.items at z made.part.found inside c.index_mut.ensures.value in
    let found : IsFoundProduct ring cols y = record { index = found_z.index; weighed = found_z.weighed; last = found_z.last } in
    let row : IsRowOf ring cols new.numbers new.entries.items z.index z.monomial c.in_ok-stretch.stretch =
    subst₂ (λ (q : Product) m. IsRowOf ring cols new.numbers new.entries.items q.index m c.in_ok-stretch.stretch) same monomial made.row in
    let last_y : IsLastProduct ring cols new.numbers new.entries.items y = record { found = found; row = row } in
    record {
      part = record {
        keys = made.part.keys;
        whole = made.part.whole;
        free = made.part.free;
        found = Each_set (IsFoundProduct ring cols) new.list.items at y made.part.found found;
      };
      numbers = more_trans start.numbers old.numbers new.numbers inv.numbers made.more.numbers;
      entries = more_trans start.entries.items old.entries.items new.entries.items inv.entries made.more.entries;
      done = λ j s l is. lasts_next ring cols old new at y lt made.more last_y inv.done j s l is;
    }
