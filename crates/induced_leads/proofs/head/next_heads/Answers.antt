use Rattle.std.proofs.Common.{[], ap, arith, get_or, length, ◌++◌, ◌+◌, ◌∙◌, ◌∷◌}
use Rattle.term_lists.specs.Rings.{variables}
use Rattle.induced_leads.specs.Heads.{IsHead}
use Rattle.induced_leads.proofs.Heading.{lead_of_column, lead_past}
use Rattle.induced_leads.proofs.Pushing.{length-pushed, pushed_items}
use Rattle.induced_leads.proofs.head.next_heads.Goals as goal

pub loop-v-preserved : goal.loop-v-preserved
loop-v-preserved c =
    let n = variables c.args.ring.now in
    let F = c.args.columns.now in
    let k = c.loop-v.v-index in
    let x = c.in_ok-next_head.field-0 in
    let len = ap length c.as_slice-v-items.ensures in
    let is = c.v-item.is ∙ ap (λ z. get_or z k c.v-item.result) c.as_slice-v-items.ensures in
    let lead = lead_of_column n F k c.lead_parts-position.result.0 c.lead_parts-position.result.1.now c.v-item.result (omega (arith, len)) is (c.lead_parts-position.ensures n) in
    record {
      count = ap length c.in_ok-push.ensures.items ∙ length-pushed c.loop-v.each.items x ∙ ap (λ z. z + 1) c.loop-v.invariant.count;
      heads = λ maps i h below lt e. pushed_items (IsHead n c.args.ring.now.weights (maps ++ F ∷ [])) c.loop-v.each.items x k c.loop-v.invariant.count (λ j g. c.loop-v.invariant.heads maps j g below) (c.in_ok-next_head.ensures maps F k below lead) i h lt
          (e ∙ ap (λ z. get_or z i h) c.in_ok-push.ensures.items);
    }

pub returns : goal.returns
returns c =
    let n = variables c.args.ring.now in
    let F = c.args.columns.now in
    let len = ap length c.as_slice-v-items.ensures in λ maps below.
    record {
      each = λ i h lt e. c.loop-v.invariant.heads maps i h below (omega (arith, c.loop-v.invariant.count)) e;
      others = λ i le. c.in_ok-next_head-2.ensures maps F i below (lead_past n F i (omega (arith, len, c.loop-v.invariant.count)));
    }
