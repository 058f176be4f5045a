use Rattle.std.proofs.Common.{sym, ◌∙◌}
use Rattle.induced_leads.proofs.comparing.differing.Goals as goal

pub returns-then-left-right : goal.returns-then-left-right
returns-then-left-right c = record {
  inside = c.loop-n.invariant.inside;
  same = c.loop-n.invariant.same;
  differ = λ _ q. c.if-left-right.true (c.place-left.ensures.sum ∙ q ∙ sym c.place-right.ensures.sum);
}
