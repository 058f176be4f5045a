use Rattle.std.proofs.Common.{ap, length, ◌∙◌}
use Rattle.hilbert_series.proofs.Positions.{found_more, found_same}
use Rattle.hilbert_series.proofs.leads.generators_at.Goals.{then-lead-i+in_ok-try_copy+in_ok-push, else-lead-i}
use Rattle.hilbert_series.proofs.leads.generators_at.Goals as goal

pub loop-lead-preserved : goal.loop-lead-preserved
loop-lead-preserved c =
    let ws = c.args.weights.now in
    let n = length ws in
    let ks = c.args.leads.now in
    elim c.if-lead-i.branch [
      | then-lead-i+in_ok-try_copy+in_ok-push w ↦
          found_more n ws c.args.i ks c.loop-lead.found.items c.if-lead-i.found.items c.loop-lead.lead-index c.lead-item.result w.in_ok-try_copy.field-0
          c.loop-lead-test.true c.lead-item.is c.requires.leads w.if-lead-i.true w.in_ok-try_copy.ensures.ok
          (ap (λ a. a.items) w.found-is ∙ w.in_ok-push.ensures.items) c.loop-lead.invariant
      | else-lead-i w ↦
          found_same n ws c.args.i ks c.loop-lead.found.items c.if-lead-i.found.items c.loop-lead.lead-index c.lead-item.result
          c.loop-lead-test.true c.lead-item.is w.if-lead-i.false (ap (λ a. a.items) w.found-is) c.loop-lead.invariant
    ]
