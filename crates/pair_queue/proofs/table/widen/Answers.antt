use Rattle.std.proofs.Common.{◌∙◌}
use Rattle.pair_queue.proofs.table.widen.Goals as goal

pub returns-in_err-widen_at-clause-wider : goal.returns-in_err-widen_at-clause-wider
returns-in_err-widen_at-clause-wider c = λ k h. c.widen_at.ensures.wider k (c.loop-a.invariant.wider k h)

pub loop-a-preserved : goal.loop-a-preserved
loop-a-preserved c = record {
  len = c.widen_at.ensures.len ∙ c.loop-a.invariant.len;
  wide = c.in_ok-widen_at.ensures.wide c.loop-a.invariant.wide;
  wider = λ k h. c.widen_at.ensures.wider k (c.loop-a.invariant.wider k h);
  flags = λ b d. c.widen_at.ensures.flags b d ∙ c.loop-a.invariant.flags b d;
}
