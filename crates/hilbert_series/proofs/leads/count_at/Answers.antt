use Rattle.std.proofs.Common.{arith, ◌∙◌}
use Rattle.hilbert_series.proofs.Positions.{count_elsewhere, count_there}
use Rattle.hilbert_series.proofs.leads.count_at.Goals.{then-lead-i, else-lead-i}
use Rattle.hilbert_series.proofs.leads.count_at.Goals as goal

pub loop-lead-preserved : goal.loop-lead-preserved
loop-lead-preserved c =
    let few = c.loop-lead.invariant.few in
    elim c.if-lead-i.branch [
      | then-lead-i w ↦ record {
        few = let e = w.count-is in omega (arith, e, few);
        counted = λ n. w.count-is
            ∙ count_there n c.args.i c.args.leads.now c.loop-lead.lead-index c.loop-lead.count c.lead-item.result c.loop-lead-test.true c.lead-item.is
            w.if-lead-i.true (c.loop-lead.invariant.counted n);
      }
      | else-lead-i w ↦ record {
        few = let e = w.count-is in omega (arith, e, few);
        counted = λ n. w.count-is
            ∙ count_elsewhere n c.args.i c.args.leads.now c.loop-lead.lead-index c.loop-lead.count c.lead-item.result c.loop-lead-test.true c.lead-item.is
            w.if-lead-i.false (c.loop-lead.invariant.counted n);
      }
    ]
