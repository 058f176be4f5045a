use Rattle.std.proofs.Common.{ap, get_or, length, subst, sym, true≢false, ◌<◌, ◌∙◌, ◌≡◌}
use Rattle.term_lists.specs.Rings.{variables}
use Rattle.ext_modules.proofs.UnitLists.{unit_in, units_length, units_so_far}
use Rattle.ext_modules.proofs.units.are_units.Goals as goal

pub returns-then-len-count : goal.returns-then-len-count
returns-then-len-count c = (
  λ e. absurd (true≢false (sym e)),
  λ e. absurd (c.if-len-count.true (c.len.ensures ∙ units_length (variables c.args.ring.now) c.args.count c.args.list.now e)),
)

pub returns-then-not-yes : goal.returns-then-not-yes
returns-then-not-yes c =
    let n = variables c.args.ring.now in
    let list = c.args.list.now in
    let i = c.loop-i.i in
    let x = c.index-as_slice-i.result in
    let lt : i < length list = subst (λ z. i < z) c.len-i-end.ensures c.loop-i-test.true in
    let at : x ≡ get_or list i x = c.index-as_slice-i.is ∙ ap (λ z. get_or z i x) c.as_slice.ensures in
    let all : length list ≡ c.args.count = sym c.len.ensures ∙ c.if-len-count.false in (
      λ e. absurd (true≢false (sym e)),
      λ e. absurd (true≢false (sym (c.in_ok-yes.ensures.1 (unit_in n i c.args.count list x lt all at e)) ∙ c.if-not-yes.true)),
    )

pub loop-i-preserved : goal.loop-i-preserved
loop-i-preserved c =
    let n = variables c.args.ring.now in
    let list = c.args.list.now in
    let i = c.loop-i.i in
    let x = c.index-as_slice-i.result in
    let lt : i < length list = subst (λ z. i < z) c.len-i-end.ensures c.loop-i-test.true in
    let at : x ≡ get_or list i x = c.index-as_slice-i.is ∙ ap (λ z. get_or z i x) c.as_slice.ensures in
    units_so_far n i list x lt at c.loop-i.invariant (c.in_ok-yes.ensures.0 c.if-not-yes.false)
