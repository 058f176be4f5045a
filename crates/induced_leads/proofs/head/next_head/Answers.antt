use Rattle.std.proofs.Common.{[], ap, arith, get_or, refl, subst, sym, ◌++◌, ◌∙◌, ◌∷◌}
use Rattle.std.proofs.lemmas.List.{get_or_default, take_all}
use Rattle.term_lists.proofs.Scaling.{take_item}
use Rattle.term_lists.specs.Rings.{variables}
use Rattle.induced_leads.specs.Heads.{AreExponentSums}
use Rattle.induced_leads.proofs.Heading.{next_is}
use Rattle.induced_leads.proofs.head.next_head.Goals as goal

pub returns : goal.returns
returns c = λ maps F i heads lead.
    let n = variables c.args.ring.now in
    let ws = c.args.ring.now.weights in
    let head = c.at-head.result.now in
    let p = c.args.position in
    let items = c.deref-place-items.result.now in
    next_is n ws maps F i p c.args.exponents.now head _ (c.at-head.ensures n ws maps heads) lead
    (subst (λ z. AreExponentSums n c.args.exponents.now z c.in_ok-exponents.exponents.items) c.deref.ensures.value c.in_ok-exponents.ensures.sums) refl
    (c.in_ok-push-2.ensures.items ∙ ap (λ w. w ++ p ∷ []) (c.loop-place.invariant ∙ take_all c.loop-place.place-index items (omega arith) ∙ c.deref-place-items.ensures.value))
    c.in_ok-exponents.ensures.degree c.in_ok-exponents.ensures.low

pub loop-place-init : goal.loop-place-init
loop-place-init c = c.in_ok-way.ensures.items

pub loop-place-preserved : goal.loop-place-preserved
loop-place-preserved c =
    let items = c.deref-place-items.result.now in
    let i = c.loop-place.place-index in
    let lt = c.loop-place-test.true in
    c.in_ok-push.ensures.items ∙ ap (λ w. w ++ get_or items i 0 ∷ []) c.loop-place.invariant
    ∙ sym (take_item items i (get_or items i 0) lt (get_or_default items i 0 (get_or items i 0) lt))
